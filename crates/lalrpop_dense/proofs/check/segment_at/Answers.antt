use Rattle.std.proofs.Common.{◌≡◌, ◌∙◌, Some, sym, ap, arith}
use Rattle.std.proofs.lemmas.Option.{slice_get_within}
use Rattle.lalrpop_dfa.proofs.EdgeTargets.{at_place, leads_at, leads_between}
use Rattle.lalrpop_dense.proofs.check.segment_at.Goals as goal

pub returns-in-Some-clause-leads : goal.returns-in-Some-clause-leads
returns-in-Some-clause-leads c = λ v from below.
    let ts = c.args.edges.now in
    let t = c.in-Some.field-0.now in
    let there = c.in-Some.ensures.lookup in
    leads_at ts c.requires.ascending c.loop-place.place c.args.other v t (at_place ts _ t there.3.0 there.1)
    (omega (arith, c.if-start-value.true, c.start.ensures.value, from), omega (arith, c.end-in-Some.ensures.value, below))

pub returns-in-Some-2-clause-leads : goal.returns-in-Some-2-clause-leads
returns-in-Some-2-clause-leads c = λ v from below.
    let ts = c.args.edges.now in
    let t = c.in-Some.field-0.now in
    let there = c.in-Some.ensures.lookup in
    leads_between ts c.requires.ascending c.loop-place.place c.args.other v (λ k u l e. omega (arith, c.loop-place.invariant k u l e, from))
    (λ u e. let same : u ≡ t = (let f : Some u ≡ Some t = sym e ∙ at_place ts _ t there.3.0 there.1 in cc) in omega (arith, ap (λ x. x.0.start) same, c.start-in-Some-2.ensures.value, below))

pub returns-in-None-clause-leads : goal.returns-in-None-clause-leads
returns-in-None-clause-leads c = λ v from below.
    let ts = c.args.edges.now in
    let past = c.in-None.ensures.lookup.3 in
    leads_between ts c.requires.ascending c.loop-place.place c.args.other v (λ k u l e. omega (arith, c.loop-place.invariant k u l e, from))
    (λ u e. absurd (omega (arith, past, slice_get_within ts c.loop-place.place u e)))
