use Rattle.std.proofs.Common.{◌<◌, ◌≡◌, ℕ, arith, subst}
use Rattle.std.specs.Prelude.{slice_get, IsSomeAnd}
use Rattle.std.proofs.lemmas.Option.{slice_get_within}
use Rattle.lalrpop_dfa.specs.Dfa.{Row}
use Rattle.lalrpop_emit.proofs.Steady.{marks_more}
use Rattle.lalrpop_emit.proofs.classes.mark_states.Goals as goal

pub loop-number-preserved : goal.loop-number-preserved
loop-number-preserved c =
    let d = c.args.dfa.now in
    let edges = c.test_edges.result.now in
    let are = subst (λ (p : ℕ). IsSomeAnd (slice_get d p) (λ (r : Row). edges ≡ r.tests)) c.new.ensures.value c.test_edges.ensures.tests in
    record {
      all = omega (arith, c.mark_edges.auto.marks, c.loop-number.invariant.all);
      each = marks_more d c.loop-number.marks c.mark_edges.new.marks edges c.loop-number.number c.loop-number.invariant.each c.mark_edges.ensures.kept are c.mark_edges.ensures.between;
    }

pub returns : goal.returns
returns c =
    let d = c.args.dfa.now in
    record {
      marks = record {
        all = c.loop-number.invariant.all;
        each = λ p r at.
            let within : p < c.loop-number.number = omega (arith, slice_get_within d p r at, c.loop-number-test.false, c.states-number-end.ensures.states.same_length) in
            c.loop-number.invariant.each p r within at;
      };
    }
