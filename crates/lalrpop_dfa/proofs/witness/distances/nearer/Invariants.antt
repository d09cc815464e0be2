use Rattle.lalrpop_dfa.proofs.Distances.{IsNearerYet}
use Rattle.lalrpop_dfa.proofs.witness.distances.nearer.Given as goal

abbrev pub invariant-loop-least : goal.invariant-loop-least
invariant-loop-least l = IsNearerYet l.dfa l.distances l.fn.state l.own l.least

abbrev pub decreases-loop-least : goal.decreases-loop-least
decreases-loop-least l = l.least
