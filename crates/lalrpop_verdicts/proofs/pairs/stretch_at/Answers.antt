use Rattle.std.proofs.Common.{◌≡◌, ◌∙◌, Some, sym, ap, arith}
use Rattle.std.proofs.lemmas.Option.{slice_get_within}
use Rattle.lalrpop_dfa.proofs.EdgeTargets.{at_place}
use Rattle.lalrpop_verdicts.proofs.Stretches.{along_edge, between_edges}
use Rattle.lalrpop_verdicts.proofs.pairs.stretch_at.Goals as goal

pub returns-in-Some-clause-leads : goal.returns-in-Some-clause-leads
returns-in-Some-clause-leads c =
    let ts = c.args.edges.now in
    let t = c.in-Some.field-0.now in
    let there = c.in-Some.ensures.lookup in
    λ k a b. along_edge ts c.loop-place.place c.args.other c.args.value t c.requires.ascending (at_place ts _ t there.3.0 there.1)
    (omega (arith, c.if-start-value.true, c.start.ensures.value)) k a (omega (arith, b, c.end-in-Some.ensures.value))

pub returns-in-Some-2-clause-leads : goal.returns-in-Some-2-clause-leads
returns-in-Some-2-clause-leads c =
    let ts = c.args.edges.now in
    let t = c.in-Some.field-0.now in
    let u = c.in-Some-2.field-0.now in
    let first = c.in-Some.ensures.lookup in
    let second = c.in-Some-2.ensures.lookup in
    between_edges ts c.loop-place.place c.args.other c.args.value _ c.requires.ascending c.loop-place.invariant
    (λ x e.
    let f : x ≡ t = (let g : Some x ≡ Some t = sym e ∙ at_place ts _ t first.3.0 first.1 in cc) in
    let h : x ≡ u = (let g : Some x ≡ Some u = sym e ∙ at_place ts _ u second.3.0 second.1 in cc) in
    omega (arith, ap (λ y. y.0.start) f, ap (λ y. y.0.start) h, c.if-start-value.false, c.start.ensures.value, c.start-in-Some-2.ensures.value))

pub returns-in-None-clause-leads : goal.returns-in-None-clause-leads
returns-in-None-clause-leads c =
    let ts = c.args.edges.now in
    between_edges ts c.loop-place.place c.args.other c.args.value _ c.requires.ascending c.loop-place.invariant
    (λ x e. absurd (omega (arith, c.in-None.ensures.lookup.3, slice_get_within ts c.loop-place.place x e)))
