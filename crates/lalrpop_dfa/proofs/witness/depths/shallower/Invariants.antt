use Rattle.std.proofs.Common.{◌-◌}
use Rattle.lalrpop_dfa.proofs.Depths.{IsShallowerYet}
use Rattle.lalrpop_dfa.proofs.witness.depths.shallower.Given as goal

abbrev pub invariant-loop-found : goal.invariant-loop-found
invariant-loop-found l = IsShallowerYet l.dfa l.depths l.fn.state l.own l.found

abbrev pub decreases-loop-found : goal.decreases-loop-found
decreases-loop-found l = l.own - l.found
