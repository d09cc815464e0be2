use Rattle.std.proofs.Common.{arith, rules}
use Rattle.lalrpop_dense.specs.Internal.Runs.{IsPageAgain}
use Rattle.lalrpop_dense.proofs.Pages.{same_on_next_page}
use Rattle.lalrpop_dense.proofs.check.run_from.Goals as goal

pub loop-end-preserved-then-is_same_page : goal.loop-end-preserved-then-is_same_page
loop-end-preserved-then-is_same_page c =
    let page : IsPageAgain c.args.layout.now c.loop-end.end = c.if-is_same_page.ensures (search rules) in
    record {
      some = omega arith;
      within = omega (arith, page.begins, c.loop-end-test.true);
      alike = same_on_next_page c.args.layout.now c.class-class.result c.args.start c.loop-end.end page (omega arith) c.loop-end.invariant.alike;
    }
