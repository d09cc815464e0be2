use Rattle.std.proofs.Common.{◌∙◌, sym, arith}
use Rattle.lalrpop_dense.proofs.Alikes.{same_end_more, same_edge}
use Rattle.lalrpop_dense.proofs.alike.shared_at_end.Goals as goal

pub loop-shared-preserved : goal.loop-shared-preserved
loop-shared-preserved c =
    let t = c.index-left-left.result in
    let u = c.index-right-right.result in
    same_end_more c.args.left.now c.args.right.now c.loop-shared.shared t u c.loop-shared.invariant c.loop-shared-test.true c.if-shared-right.true
    (sym c.index-left-left.is ∙ same_edge t u (omega arith) (omega arith) (omega arith) ∙ c.index-right-right.is)
