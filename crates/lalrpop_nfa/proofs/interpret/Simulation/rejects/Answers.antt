use Rattle.std.proofs.Common.{◌≡◌, ◌∙◌, refl, length, ap, subst, sym, arith}
use Rattle.std.specs.Prelude.{slice_get, Some}
use Rattle.lalrpop_nfa.specs.declared.edge.StateKind.TheVariants.{Reject}
use Rattle.lalrpop_nfa.specs.Internal.StateSets.{Visited}
use Rattle.lalrpop_hir.proofs.Contained.{contains_at}
use Rattle.lalrpop_nfa.proofs.interpret.Simulation.rejects.Goals as goal

pub is_rejecting_state-requires : goal.is_rejecting_state-requires
is_rejecting_state-requires c =
    let within = c.states-state-items.ensures.within c.state-item.result (c.loop-state.state-index, c.loop-state-test.true, sym c.state-item.is) in
    omega (arith, c.self.invariant.0)

pub returns : goal.returns
returns c = (
  λ t q k.
      let at = contains_at c.args.self.now.states.states q k in
      let same = c.states-state-items.ensures.value ∙ ap (λ (v : Visited). v.states.states) c.self.view_is in
      subst (λ p. slice_get c.args.self.now.graph.kinds p ≡ Some Reject) at.1.1 (c.loop-state.invariant at.0 (omega (arith, at.1.0, ap length same))),
  λ h. refl,
)
