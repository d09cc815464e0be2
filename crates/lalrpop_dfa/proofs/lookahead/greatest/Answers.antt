use Rattle.std.proofs.Common.{◌≡◌, ◌<◌, ◌∙◌, length, ap, subst, arith, rules}
use Rattle.std.specs.Prelude.{slice_get, Some}
use Rattle.lalrpop_dfa.proofs.EdgeTargets.{at_place, the_some, tests_of}
use Rattle.lalrpop_dfa.proofs.Marking.{row_tests, test_in}
use Rattle.lalrpop_dfa.proofs.Waiting.{IsGreatestYet, greatest_by_max, greatest_end}
use Rattle.lalrpop_dfa.proofs.lookahead.greatest.Goals as goal

pub bounds-numbers-index : goal.bounds-numbers-index
bounds-numbers-index c =
    let r = row_tests c.args.dfa.now c.args.state c.test_edges-target-items.result.now c.test_edges-target-items.ensures.tests in
    let at = at_place c.test_edges-target-items.result.now c.loop-target.target-index c.loop-target-item.result c.loop-target-test.true c.loop-target-item.is in
    omega (arith, c.index.ensures.value, c.requires.same_length, test_in c.args.dfa.now c.args.state r.0 c.loop-target.target-index c.loop-target-item.result c.test_edges-target-items.ensures.well_formed r.1.0 (rw r.1.1 at at))

pub offset_bounds-numbers-index : goal.offset_bounds-numbers-index
offset_bounds-numbers-index c =
    let r = row_tests c.args.dfa.now c.args.state c.test_edges-target-items.result.now c.test_edges-target-items.ensures.tests in
    let at = at_place c.test_edges-target-items.result.now c.loop-target.target-index c.loop-target-item.result c.loop-target-test.true c.loop-target-item.is in
    let within : c.index.result < length c.args.numbers.now =
    omega (arith, c.index.ensures.value, c.requires.same_length, test_in c.args.dfa.now c.args.state r.0 c.loop-target.target-index c.loop-target-item.result c.test_edges-target-items.ensures.well_formed r.1.0 (rw r.1.1 at at)) in
    search rules

pub loop-target-preserved : goal.loop-target-preserved
loop-target-preserved c =
    let ts = c.test_edges-target-items.result.now in
    let at : slice_get ts c.loop-target.target-index ≡ Some c.loop-target-item.result = at_place ts c.loop-target.target-index c.loop-target-item.result c.loop-target-test.true c.loop-target-item.is in
    greatest_by_max c.args.numbers.now c.index-other.result ts c.loop-target.target-index c.loop-target.greatest c.max-greatest.result c.index.result c.loop-target-item.result c.loop-target.invariant at
    c.index.ensures.value c.max-greatest.ensures

pub returns : goal.returns
returns c =
    let d = c.args.dfa.now in
    let ts = c.test_edges-target-items.result.now in
    let r = the_some _ _ c.state.ensures.at in
    let tests = tests_of d c.args.state r.0 ts r.1.0 c.test_edges-target-items.ensures.tests in
    let o : c.index-other.result ≡ r.0.other = c.index-other.ensures.value ∙ c.other_edge.ensures.other ∙ r.1.1.other in
    let yet : IsGreatestYet c.args.numbers.now r.0.other r.0.tests c.loop-target.target-index c.loop-target.greatest =
    subst (λ us. IsGreatestYet c.args.numbers.now r.0.other us c.loop-target.target-index c.loop-target.greatest) tests
    (subst (λ q. IsGreatestYet c.args.numbers.now q ts c.loop-target.target-index c.loop-target.greatest) o c.loop-target.invariant) in
    greatest_end d c.args.state r.0 c.args.numbers.now c.loop-target.target-index c.loop-target.greatest r.1.0 (c.state.ensures.well_formed.ascending c.args.state r.0 r.1.0)
    (omega (arith, c.loop-target-test.false, ap length tests)) yet
