use Rattle.std.proofs.Common.{arith}
use Rattle.lalrpop_dfa.proofs.EdgeTargets.{at_place}
use Rattle.lalrpop_dfa.proofs.Marking.{test_in, row_tests}
use Rattle.lalrpop_verdicts.proofs.side_by_side.write_shifted.Goals as goal

pub overflow_add-index : goal.overflow_add-index
overflow_add-index c =
    let ts = c.test_edges-test-items.result.now in
    let r = row_tests c.args.dfa.now c.args.state ts c.test_edges-test-items.ensures.tests in
    let at = at_place ts c.loop-test.test-index c.loop-test-item.result c.loop-test-test.true c.loop-test-item.is in
    omega (arith, c.index.ensures.value, c.requires.small, test_in c.args.dfa.now c.args.state r.0 c.loop-test.test-index c.loop-test-item.result c.test_edges-test-items.ensures.well_formed r.1.0 (rw r.1.1 at at))
