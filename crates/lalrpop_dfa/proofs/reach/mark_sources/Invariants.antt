use Rattle.std.proofs.Common.{◌-◌}
use Rattle.lalrpop_dfa.proofs.Reaching.{IsGoingBack}
use Rattle.lalrpop_dfa.proofs.reach.mark_sources.Given as goal

abbrev pub invariant-loop-back : goal.invariant-loop-back
invariant-loop-back l = IsGoingBack l.dfa l.initial.marks l.marks (l.count - l.back)
