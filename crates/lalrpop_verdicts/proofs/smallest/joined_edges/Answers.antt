use Rattle.std.proofs.Common.{◌≡◌, ◌<◌, ◌+◌, ◌∙◌, ◌∷◌, ◌++◌, [], ℕ, length, slice_index, take, sym, ap, subst, arith, rules}
use Rattle.std.proofs.lemmas.List.{take_more}
use Rattle.lalrpop_hir.specs.Range.{Range}
use Rattle.lalrpop_dfa.specs.Dfa.{AreAscendingTests}
use Rattle.lalrpop_dfa.proofs.EdgeTargets.{at_place, the_some, tests_of}
use Rattle.lalrpop_dfa.proofs.Marking.{test_in, row_tests}
use Rattle.lalrpop_verdicts.specs.Internal.ClassRows.{AreJoined, IsAdded}
use Rattle.lalrpop_verdicts.proofs.ClassWalks.{range_same}
use Rattle.lalrpop_verdicts.proofs.JoinedTests.{ascend_take, at_row, joined_added, joined_skip, joined_within, of_row}
use Rattle.lalrpop_verdicts.proofs.smallest.joined_edges.Goals.{then-classes-index+in_ok-clone+in_ok-add_joined, else-classes-index}
use Rattle.lalrpop_verdicts.proofs.smallest.joined_edges.Goals as goal

pub bounds-classes-index-in-loop-test : goal.bounds-classes-index-in-loop-test
bounds-classes-index-in-loop-test c =
    let ts = c.test_edges-test-items.result.now in
    let r = row_tests c.args.dfa.now c.args.state ts c.test_edges-test-items.ensures.tests in
    let at = at_place ts c.loop-test.test-index c.loop-test-item.result c.loop-test-test.true c.loop-test-item.is in
    omega (arith, c.index-in-loop-test.ensures.value, c.requires.same_length, test_in c.args.dfa.now c.args.state r.0 c.loop-test.test-index c.loop-test-item.result c.test_edges-test-items.ensures.well_formed r.1.0 (rw r.1.1 at at))

pub offset_bounds-classes-index-in-loop-test : goal.offset_bounds-classes-index-in-loop-test
offset_bounds-classes-index-in-loop-test c =
    let ts = c.test_edges-test-items.result.now in
    let r = row_tests c.args.dfa.now c.args.state ts c.test_edges-test-items.ensures.tests in
    let at = at_place ts c.loop-test.test-index c.loop-test-item.result c.loop-test-test.true c.loop-test-item.is in
    let small : c.index-in-loop-test.result < length c.args.classes.now = omega (arith, c.index-in-loop-test.ensures.value, c.requires.same_length, test_in c.args.dfa.now c.args.state r.0 c.loop-test.test-index c.loop-test-item.result c.test_edges-test-items.ensures.well_formed r.1.0 (rw r.1.1 at at)) in
    search rules

pub add_joined-requires-clause-within : goal.add_joined-requires-clause-within
add_joined-requires-clause-within c =
    let ts = c.test_edges-test-items.result.now in
    let r = row_tests c.args.dfa.now c.args.state ts c.test_edges-test-items.ensures.tests in
    let t = c.loop-test-item.result in
    let at = at_place ts c.loop-test.test-index t c.loop-test-test.true c.loop-test-item.is in
    let within : t.1 < length c.args.dfa.now = test_in c.args.dfa.now c.args.state r.0 c.loop-test.test-index t c.test_edges-test-items.ensures.well_formed r.1.0 (rw r.1.1 at at) in
    omega (arith, c.requires.same_length, within)

pub add_joined-requires-clause-all_within : goal.add_joined-requires-clause-all_within
add_joined-requires-clause-all_within c = λ k u e.
    let below = joined_within c.args.dfa.now c.args.state (slice_index c.args.classes.now) c.loop-test.edges.items c.test_edges-test-items.ensures.well_formed c.test_edges-test-items.result.now
    c.loop-test.test-index c.test_edges-test-items.ensures.tests c.loop-test.invariant k u e in
    omega (arith, below, c.requires.same_length)

pub loop-test-preserved : goal.loop-test-preserved
loop-test-preserved c =
    let d = c.args.dfa.now in
    let p = c.args.state in
    let f : ℕ → ℕ = slice_index c.args.classes.now in
    let ts = c.test_edges-test-items.result.now in
    let us = c.loop-test.edges.items in
    let vs = c.if-classes-index.edges.items in
    let k = c.loop-test.test-index in
    let t = c.loop-test-item.result in
    let r = the_some _ _ c.state.ensures.at in
    let o : c.index.result ≡ r.0.other = c.index.ensures.value ∙ c.other_edge.ensures.other ∙ r.1.1.other in
    let tests = tests_of d p r.0 ts r.1.0 c.test_edges-test-items.ensures.tests in
    let rising : AreAscendingTests ts = rw tests (c.test_edges-test-items.ensures.well_formed.ascending p r.0 r.1.0) in
    let more : take (k + 1) ts ≡ take k ts ++ t ∷ [] = take_more ts k t c.loop-test-test.true ∙ ap (λ y. take k ts ++ y ∷ []) (sym c.loop-test-item.is) in
    let upto : AreAscendingTests (take k ts ++ t ∷ []) = rw (← more) (ascend_take ts (k + 1) rising) in
    let done : AreJoined f r.0.other (take k ts) us = of_row _ r.0 (λ x. AreJoined f x.other (take k ts) us) r.1.0 c.loop-test.invariant in
    let target : f c.index-in-loop-test.result ≡ f t.1 = ap f c.index-in-loop-test.ensures.value in
    let other_class : f c.index.result ≡ f r.0.other = ap f o in
    let next : AreJoined f r.0.other (take k ts ++ t ∷ []) vs = elim c.if-classes-index.branch [
      | then-classes-index+in_ok-clone+in_ok-add_joined w ↦ (let (x, y, was, copied, ends) = w.in_ok-clone.ensures.cases in
          let label = w.in_ok-clone.field-0 in
          let same : label ≡ t.0 = range_same (record { start = x.start; end = x.end }) (record { start = y.start; end = y.end }) t.0 label was copied ends.0 ends.1 in
          let added : IsAdded f us t vs = rw w.edges-is (subst (λ (a : Range). IsAdded f us (a, t.1) w.add_joined.new.edges.items) same w.in_ok-add_joined.ensures) in
          joined_added f r.0.other (take k ts) us t upto done vs (λ e. omega (arith, e, target, other_class, w.if-classes-index.true)) added)
      | else-classes-index w ↦ (let same : f t.1 ≡ f r.0.other = omega (arith, target, other_class, w.if-classes-index.false) in
          rw w.edges-is (joined_skip f r.0.other (take k ts) us t upto done same))
    ] in
    at_row _ r.0 (λ x. AreJoined f x.other (take (k + 1) ts) vs) r.1.0 (rw more next)
