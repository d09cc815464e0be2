use Rattle.std.proofs.Common.{◌≡◌, ◌≤◌, ◌∙◌, Some, sym, ap, arith}
use Rattle.std.proofs.lemmas.Option.{slice_get_within}
use Rattle.lalrpop_dfa.proofs.EdgeTargets.{at_place, leads_at, leads_between}
use Rattle.lalrpop_verdicts.proofs.classes.stretches.walk_to.Goals as goal
use Rattle.lalrpop_verdicts.proofs.classes.stretches.walk_to.Goals.{then-loop-place-test+else-end-value, else-loop-place-test}

pub returns-in-Some-clause-leads : goal.returns-in-Some-clause-leads
returns-in-Some-clause-leads c =
    let ts = c.args.edges.now in
    let t = c.in-Some.field-0.now in
    let there = c.in-Some.ensures.lookup in
    let reaches : c.args.value ≤ t.0.end = elim c.loop-place-test.branch [
      | then-loop-place-test+else-end-value w ↦ omega (arith, w.if-end-value.false, w.end.ensures.value, ap (λ x. x.0.end) (there.3.1 w.index-edges-place.result))
      | else-loop-place-test w ↦ absurd (omega (arith, w.loop-place-test.false, there.3.0))
    ] in
    sym (leads_at ts c.requires.ascending c.loop-place.place c.args.other c.args.value t (at_place ts _ t there.3.0 there.1) (omega (arith, c.if-start-value.true, c.start.ensures.value), reaches))

pub returns-in_default-clause-leads : goal.returns-in_default-clause-leads
returns-in_default-clause-leads c =
    let ts = c.args.edges.now in
    let t = c.in-Some.field-0.now in
    let there = c.in-Some.ensures.lookup in
    sym (leads_between ts c.requires.ascending c.loop-place.place c.args.other c.args.value c.loop-place.invariant
    (λ u e. let same : u ≡ t = (let f : Some u ≡ Some t = sym e ∙ at_place ts _ t there.3.0 there.1 in cc) in omega (arith, ap (λ x. x.0.start) same, c.if-start-value.false, c.start.ensures.value)))

pub returns-in_default-2-clause-leads : goal.returns-in_default-2-clause-leads
returns-in_default-2-clause-leads c =
    let ts = c.args.edges.now in
    let past = rw c.in_default.is at c.get.ensures.lookup.3 in
    sym (leads_between ts c.requires.ascending c.loop-place.place c.args.other c.args.value c.loop-place.invariant
    (λ u e. absurd (omega (arith, past, slice_get_within ts c.loop-place.place u e))))
