use Rattle.std.proofs.Common.{◌≡◌, length, subst, arith}
use Rattle.std.specs.Prelude.{slice_get, IsSomeAnd}
use Rattle.lalrpop_verdicts.proofs.StretchLaws.{HaveBounds, bounds_more, tried_of}
use Rattle.lalrpop_verdicts.proofs.classes.stretches.bounds.Goals as goal

pub loop-number-preserved : goal.loop-number-preserved
loop-number-preserved c =
    let d = c.args.dfa.now in
    let edges = c.test_edges.result.now in
    let tests : IsSomeAnd (slice_get d c.loop-number.number) (λ r. edges ≡ r.tests) =
    subst (λ n. IsSomeAnd (slice_get d n) (λ r. edges ≡ r.tests)) c.new-in-loop-number.ensures.value c.test_edges.ensures.tests in
    record {
      listed = c.in_ok-add_bounds.ensures.listed;
      bounds = bounds_more d c.loop-number.number c.loop-number.bounds.values.items c.add_bounds.new.self.values.items edges c.loop-number.invariant.bounds c.in_ok-add_bounds.ensures.more tests c.in_ok-add_bounds.ensures.bounded;
    }

pub returns-clause-tried : goal.returns-clause-tried
returns-clause-tried c =
    let d = c.args.dfa.now in
    let values = c.loop-number.bounds.values.items in
    let all : c.loop-number.number ≡ length d = omega (arith, c.loop-number-test.false, c.states-number-end.ensures.states.same_length) in
    tried_of d values (subst (λ n. HaveBounds d n values) all c.loop-number.invariant.bounds)
