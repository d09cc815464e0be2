use Rattle.std.proofs.Common.{◌<◌, length, sym, arith, ap, ◌∙◌}
use Rattle.lalrpop_rules.proofs.KindLaws.{kind_left, kind_taken}
use Rattle.lalrpop_rules.proofs.kinds.trees_of_kind.Goals as goal
use Rattle.lalrpop_rules.proofs.kinds.trees_of_kind.Goals.{then-is_kind+in_ok-tree+in_ok-push, else-is_kind}

pub loop-index-preserved : goal.loop-index-preserved
loop-index-preserved c =
    let in_ts : c.loop-index.index < length c.args.trees.now = c.loop-index-test.true in
    let in_os : c.loop-index.index < length c.args.kinds.now = omega (arith, in_ts, c.requires.same_len) in
    elim c.if-is_kind.branch [
      | then-is_kind+in_ok-tree+in_ok-push w ↦
          kind_taken c.args.kind c.args.kinds.now c.args.trees.now c.loop-index.all.items _ c.loop-index.index _ _ w.in_ok-tree.tree in_os in_ts c.loop-index.invariant
          (sym w.if-is_kind.ensures) (w.in_ok-tree.ensures.cases ∙ w.index-trees-index.is) (ap (λ v. v.items) w.all-is ∙ w.in_ok-push.ensures.items)
      | else-is_kind w ↦
          kind_left c.args.kind c.args.kinds.now c.args.trees.now _ c.loop-index.index _ in_os in_ts
          (ap (λ v. v.items) w.all-is ∙ c.loop-index.invariant) (sym w.if-is_kind.ensures)
    ]
