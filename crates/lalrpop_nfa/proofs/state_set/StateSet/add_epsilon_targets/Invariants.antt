use Rattle.lalrpop_nfa.proofs.StateSetLemmas.{IsGoing}
use Rattle.lalrpop_nfa.proofs.state_set.StateSet.add_epsilon_targets.Given as goal

abbrev pub invariant-loop-edge : goal.invariant-loop-edge
invariant-loop-edge l = IsGoing l.fn.from l.nfa.edges.noops l.edge-iterator (λ x. Unit {0}) l.initial.self l.self
