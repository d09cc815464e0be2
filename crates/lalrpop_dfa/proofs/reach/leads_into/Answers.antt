use Rattle.std.proofs.Common.{◌≡◌, ℕ, ◌<◌, ◌≤◌, ◌∙◌, length, ap, sym, subst, arith, ⊎_elim, refl}
use Rattle.std.specs.Prelude.{slice_get, Some}
use Rattle.std.proofs.lemmas.Bool.{cases_lt}
use Rattle.std.proofs.lemmas.Option.{slice_get_within}
use Rattle.lalrpop_hir.specs.Range.{Range}
use Rattle.lalrpop_dfa.specs.Internal.Marks.{Marked}
use Rattle.lalrpop_dfa.proofs.EdgeTargets.{at_place, the_some, tests_of}
use Rattle.lalrpop_dfa.proofs.Marking.{leads_by_test, leads_by_other, leads_else, marked_read, read_marked, test_in, row_tests}
use Rattle.lalrpop_dfa.proofs.reach.leads_into.Goals as goal

pub bounds-marks-index : goal.bounds-marks-index
bounds-marks-index c =
    let r = row_tests c.args.dfa.now c.args.state c.test_edges-target-items.result.now c.test_edges-target-items.ensures.tests in
    let at = at_place c.test_edges-target-items.result.now c.loop-target.target-index c.loop-target-item.result c.loop-target-test.true c.loop-target-item.is in
    omega (arith, c.index.ensures.value, c.requires.same_length, test_in c.args.dfa.now c.args.state r.0 c.loop-target.target-index c.loop-target-item.result c.test_edges-target-items.ensures.well_formed r.1.0 (rw r.1.1 at at))

pub returns-then-marks-index : goal.returns-then-marks-index
returns-then-marks-index c =
    let r = row_tests c.args.dfa.now c.args.state c.test_edges-target-items.result.now c.test_edges-target-items.ensures.tests in
    let at = at_place c.test_edges-target-items.result.now c.loop-target.target-index c.loop-target-item.result c.loop-target-test.true c.loop-target-item.is in
    let here = rw r.1.1 at at in
    let within = test_in c.args.dfa.now c.args.state r.0 c.loop-target.target-index c.loop-target-item.result c.test_edges-target-items.ensures.well_formed r.1.0 here in
    let mark : Marked c.args.marks.now c.loop-target-item.result.1 = subst (Marked c.args.marks.now) c.index.ensures.value (marked_read c.args.marks.now c.index.result (omega (arith, c.index.ensures.value, c.requires.same_length, within)) c.if-marks-index.true) in
    (λ t. leads_by_test c.args.dfa.now c.args.marks.now c.args.state r.0 r.1.0 c.loop-target.target-index c.loop-target-item.result (c.test_edges-target-items.ensures.well_formed.ascending c.args.state r.0 r.1.0) here mark, λ h. refl)

pub loop-target-preserved : goal.loop-target-preserved
loop-target-preserved c = λ k t l e m.
    ⊎_elim (λ (a : k < c.loop-target.target-index). c.loop-target.invariant k t a e m)
    (λ (a : c.loop-target.target-index ≤ k).
    let i : k ≡ c.loop-target.target-index = omega arith in
    let at = at_place c.test_edges-target-items.result.now c.loop-target.target-index c.loop-target-item.result c.loop-target-test.true c.loop-target-item.is in
    let same : t ≡ c.loop-target-item.result = (let g : Some t ≡ Some c.loop-target-item.result = sym e ∙ (ap (slice_get c.test_edges-target-items.result.now) i ∙ at) in cc) in
    let mark : Marked c.args.marks.now c.index.result = subst (Marked c.args.marks.now) (ap (λ (x : Range × ℕ). x.1) same ∙ sym c.index.ensures.value) m in
    let yes = read_marked c.args.marks.now c.index.result mark in
    let no = c.if-marks-index.false in
    cc)
    (cases_lt k c.loop-target.target-index)

pub returns : goal.returns
returns c =
    let d = c.args.dfa.now in
    let marks = c.args.marks.now in
    let r = the_some _ _ c.state.ensures.at in
    let tests = tests_of d c.args.state r.0 c.test_edges-target-items.result.now r.1.0 c.test_edges-target-items.ensures.tests in
    let o : c.index-2.result ≡ r.0.other = c.index-2.ensures.value ∙ c.other_edge.ensures.other ∙ r.1.1.other in
    let within : c.index-2.result < length marks = omega (arith, o, c.requires.same_length, c.state.ensures.well_formed.others_in c.args.state r.0 r.1.0) in (
      λ t. leads_by_other d marks c.args.state r.0 r.1.0 (subst (Marked marks) o (marked_read marks c.index-2.result within t)),
      λ h. read_marked marks c.index-2.result (subst (Marked marks) (sym o) (leads_else d marks c.args.state r.0 r.1.0
          (λ k t at m. let here = rw (← tests) at at in c.loop-target.invariant k t (omega (arith, c.loop-target-test.false, slice_get_within c.test_edges-target-items.result.now k t here)) here m) h)),
    )
