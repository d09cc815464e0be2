use Rattle.std.proofs.Common.{◌≡◌, ◌∙◌, length, ap, subst, sym, arith}
use Rattle.std.specs.Prelude.{slice_get, Some}
use Rattle.lalrpop_nfa.specs.declared.edge.StateKind.TheVariants.{Accept}
use Rattle.lalrpop_nfa.specs.Internal.StateSets.{Visited}
use Rattle.lalrpop_hir.proofs.Contained.{contains_at}
use Rattle.lalrpop_nfa.proofs.interpret.Simulation.accepts.Goals as goal

pub is_accepting_state-requires : goal.is_accepting_state-requires
is_accepting_state-requires c =
    let within = c.states-state-items.ensures.within c.state-item.result (c.loop-state.state-index, c.loop-state-test.true, sym c.state-item.is) in
    omega (arith, c.self.invariant.0)

pub returns : goal.returns
returns c = (
  λ f. absurd cc,
  λ s.
      let at = contains_at c.args.self.now.states.states s.0 s.1.0 in
      let same = c.states-state-items.ensures.value ∙ ap (λ (v : Visited). v.states.states) c.self.view_is in
      absurd (c.loop-state.invariant at.0 (omega (arith, at.1.0, ap length same)) (subst (λ q. slice_get c.args.self.now.graph.kinds q ≡ Some Accept) (sym at.1.1) s.1.1)),
)
