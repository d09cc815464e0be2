use Rattle.std.proofs.Common.{◌≡◌, ◌<◌, ◌≤◌, ◌∙◌, ℕ, length, slice_index, sym, ap, arith, rules, ⊎_elim, true, false, eqb-true, eq-eqb}
use Rattle.std.specs.Prelude.{slice_get, Some}
use Rattle.std.proofs.lemmas.Bool.{cases_lt}
use Rattle.std.proofs.lemmas.Option.{slice_get_within}
use Rattle.lalrpop_hir.specs.Range.{Range}
use Rattle.lalrpop_dfa.proofs.EdgeTargets.{at_place, the_some, tests_of}
use Rattle.lalrpop_dfa.proofs.Marking.{test_in, row_tests}
use Rattle.lalrpop_verdicts.proofs.ClassWalks.{led_by_other, led_by_test, stays_by_edges, stays_led}
use Rattle.lalrpop_verdicts.proofs.smallest.stays_in_class.Goals as goal

pub bounds-classes-index-in-loop-target : goal.bounds-classes-index-in-loop-target
bounds-classes-index-in-loop-target c =
    let ts = c.test_edges-target-items.result.now in
    let r = row_tests c.args.dfa.now c.args.state ts c.test_edges-target-items.ensures.tests in
    let at = at_place ts c.loop-target.target-index c.loop-target-item.result c.loop-target-test.true c.loop-target-item.is in
    omega (arith, c.index-in-loop-target.ensures.value, c.requires.same_length, test_in c.args.dfa.now c.args.state r.0 c.loop-target.target-index c.loop-target-item.result c.test_edges-target-items.ensures.well_formed r.1.0 (rw r.1.1 at at))

pub offset_bounds-classes-index-in-loop-target : goal.offset_bounds-classes-index-in-loop-target
offset_bounds-classes-index-in-loop-target c =
    let ts = c.test_edges-target-items.result.now in
    let r = row_tests c.args.dfa.now c.args.state ts c.test_edges-target-items.ensures.tests in
    let at = at_place ts c.loop-target.target-index c.loop-target-item.result c.loop-target-test.true c.loop-target-item.is in
    let small : c.index-in-loop-target.result < length c.args.classes.now = omega (arith, c.index-in-loop-target.ensures.value, c.requires.same_length, test_in c.args.dfa.now c.args.state r.0 c.loop-target.target-index c.loop-target-item.result c.test_edges-target-items.ensures.well_formed r.1.0 (rw r.1.1 at at)) in
    search rules

pub returns-then-classes-index : goal.returns-then-classes-index
returns-then-classes-index c =
    let d = c.args.dfa.now in
    let classes = c.args.classes.now in
    let p = c.args.state in
    let ts = c.test_edges-target-items.result.now in
    let k = c.loop-target.target-index in
    let t = c.loop-target-item.result in
    let r = row_tests d p ts c.test_edges-target-items.ensures.tests in
    let at = at_place ts k t c.loop-target-test.true c.loop-target-item.is in
    let led = led_by_test d classes p r.0 r.1.0 k t (c.test_edges-target-items.ensures.well_formed.ascending p r.0 r.1.0) (rw r.1.1 at at) in (
      λ no. absurd (let clash : false ≡ true = no in cc),
      λ stays. absurd (
          let same : slice_index classes c.index-in-loop-target.result ≡ slice_index classes c.index.result =
          ap (slice_index classes) c.index-in-loop-target.ensures.value ∙ stays_led d classes p r.0 r.1.0 t.1 led stays ∙ ap (slice_index classes) (sym c.index.ensures.value) in
          omega (arith, same, c.if-classes-index.true)),
    )

pub loop-target-preserved : goal.loop-target-preserved
loop-target-preserved c = λ k t l e.
    ⊎_elim (λ (a : k < c.loop-target.target-index). c.loop-target.invariant k t a e)
    (λ (a : c.loop-target.target-index ≤ k).
    let classes = c.args.classes.now in
    let ts = c.test_edges-target-items.result.now in
    let i : k ≡ c.loop-target.target-index = omega arith in
    let at = at_place ts c.loop-target.target-index c.loop-target-item.result c.loop-target-test.true c.loop-target-item.is in
    let same : t ≡ c.loop-target-item.result = (let g : Some t ≡ Some c.loop-target-item.result = sym e ∙ (ap (slice_get ts) i ∙ at) in cc) in
    let read : slice_index classes c.index-in-loop-target.result ≡ slice_index classes c.index.result = omega (arith, c.if-classes-index.false) in
    ap (λ (x : Range × ℕ). slice_index classes x.1) same ∙ ap (slice_index classes) (sym c.index-in-loop-target.ensures.value) ∙ read)
    (cases_lt k c.loop-target.target-index)

pub returns : goal.returns
returns c =
    let d = c.args.dfa.now in
    let classes = c.args.classes.now in
    let p = c.args.state in
    let r = the_some _ _ c.state.ensures.at in
    let ts = c.test_edges-target-items.result.now in
    let tests = tests_of d p r.0 ts r.1.0 c.test_edges-target-items.ensures.tests in
    let o : c.index-2.result ≡ r.0.other = c.index-2.ensures.value ∙ c.other_edge.ensures.other ∙ r.1.1.other in
    let own = ap (slice_index classes) c.index.ensures.value in (
      λ same. stays_by_edges d classes p r.0 r.1.0
          (λ k t at. (let here = rw (← tests) at at in
          c.loop-target.invariant k t (omega (arith, c.loop-target-test.false, slice_get_within ts k t here)) here ∙ own))
          (ap (slice_index classes) (sym o) ∙ eqb-true (slice_index classes c.index-2.result) (slice_index classes c.index.result) same ∙ own),
      λ stays. eq-eqb (slice_index classes c.index-2.result) (slice_index classes c.index.result)
          (ap (slice_index classes) o ∙ stays_led d classes p r.0 r.1.0 r.0.other (led_by_other d classes p r.0 r.1.0) stays ∙ sym own),
    )
