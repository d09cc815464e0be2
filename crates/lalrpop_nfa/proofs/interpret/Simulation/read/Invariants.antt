use Rattle.lalrpop_nfa.proofs.StateSetLemmas.{IsMoving}
use Rattle.lalrpop_nfa.proofs.interpret.Simulation.read.Given as goal

abbrev pub invariant-loop-state : goal.invariant-loop-state
invariant-loop-state l = IsMoving l.fn.self.graph.edges l.value l.fn.self.states l.next l.state-index
