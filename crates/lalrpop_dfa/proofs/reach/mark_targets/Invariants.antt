use Rattle.lalrpop_dfa.proofs.Reaching.{AreTargetsMarked}
use Rattle.lalrpop_dfa.proofs.reach.mark_targets.Given as goal

abbrev pub invariant-loop-target : goal.invariant-loop-target
invariant-loop-target l = AreTargetsMarked l.dfa l.target-items l.initial.marks l.marks l.target-index
