use Rattle.std.proofs.Common.{◌≡◌, ◌<◌, ◌∙◌, ap, length, subst, arith}
use Rattle.lalrpop_dfa.proofs.EdgeTargets.{at_place, tests_of, the_some}
use Rattle.lalrpop_dfa.proofs.Marking.{row_tests, test_in}
use Rattle.lalrpop_dfa.proofs.Reaching.{AreTargetsMarked, targets_end, targets_more}
use Rattle.lalrpop_dfa.proofs.reach.mark_targets.Goals as goal

pub bounds-marks-index : goal.bounds-marks-index
bounds-marks-index c =
    let r = row_tests c.args.dfa.now c.args.state c.test_edges-target-items.result.now c.test_edges-target-items.ensures.tests in
    let at = at_place c.test_edges-target-items.result.now c.loop-target.target-index c.loop-target-item.result c.loop-target-test.true c.loop-target-item.is in
    omega (arith, c.index.ensures.value, c.requires.same_length, c.loop-target.auto.marks, test_in c.args.dfa.now c.args.state r.0 c.loop-target.target-index c.loop-target-item.result c.test_edges-target-items.ensures.well_formed r.1.0 (rw r.1.1 at at))

pub loop-target-preserved : goal.loop-target-preserved
loop-target-preserved c =
    let ts = c.test_edges-target-items.result.now in
    let r = row_tests c.args.dfa.now c.args.state ts c.test_edges-target-items.ensures.tests in
    let at = at_place ts c.loop-target.target-index c.loop-target-item.result c.loop-target-test.true c.loop-target-item.is in
    let within : c.loop-target-item.result.1 < length c.loop-target.marks =
    omega (arith, c.requires.same_length, c.loop-target.auto.marks, test_in c.args.dfa.now c.args.state r.0 c.loop-target.target-index c.loop-target-item.result c.test_edges-target-items.ensures.well_formed r.1.0 (rw r.1.1 at at)) in
    rw c.index.ensures.value (targets_more c.args.dfa.now ts c.args.marks.now c.loop-target.marks c.loop-target.target-index c.loop-target-item.result c.loop-target.invariant at within)

pub returns-clause-marked : goal.returns-clause-marked
returns-clause-marked c =
    let d = c.args.dfa.now in
    let r = the_some _ _ c.state.ensures.at in
    let ts = c.test_edges-target-items.result.now in
    let tests = tests_of d c.args.state r.0 ts r.1.0 c.test_edges-target-items.ensures.tests in
    let o = c.index-2.ensures.value ∙ c.other_edge.ensures.other ∙ r.1.1.other in
    let all : length r.0.tests ≡ c.loop-target.target-index = omega (arith, c.loop-target-test.false, c.loop-target.auto.target-index-end, ap length tests) in
    let marked : AreTargetsMarked d r.0.tests c.args.marks.now c.loop-target.marks c.loop-target.target-index =
    subst (λ us. AreTargetsMarked d us c.args.marks.now c.loop-target.marks c.loop-target.target-index) tests c.loop-target.invariant in
    rw o
    (targets_end d c.args.state r.0 c.args.marks.now c.loop-target.marks c.loop-target.target-index r.1.0 (c.state.ensures.well_formed.ascending c.args.state r.0 r.1.0) marked (omega (arith, all))
    (omega (arith, c.requires.same_length, c.loop-target.auto.marks, c.state.ensures.well_formed.others_in c.args.state r.0 r.1.0)))
