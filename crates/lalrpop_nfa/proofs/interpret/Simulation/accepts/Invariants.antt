use Rattle.std.proofs.Common.{◌≡◌, ℕ, ◌<◌, get_or}
use Rattle.std.specs.Prelude.{slice_get, Some}
use Rattle.lalrpop_nfa.specs.declared.edge.StateKind.TheVariants.{Accept}
use Rattle.lalrpop_nfa.proofs.interpret.Simulation.accepts.Given as goal

abbrev pub invariant-loop-state : goal.invariant-loop-state
invariant-loop-state l = (k : ℕ) → k < l.state-index → slice_get l.self.graph.kinds (get_or l.self.states.states k 0) ≡ Some Accept → ⊥
