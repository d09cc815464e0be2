use Rattle.lalrpop_dfa.proofs.Reaching.{IsGoingOn}
use Rattle.lalrpop_dfa.proofs.reach.mark_followers.Given as goal

abbrev pub invariant-loop-number : goal.invariant-loop-number
invariant-loop-number l = IsGoingOn l.dfa l.initial.marks l.marks l.number
