use Rattle.std.proofs.Common.{length}
use Rattle.lalrpop_verdicts.specs.Internal.Rounds.{IsRound}
use Rattle.lalrpop_verdicts.proofs.RoundLaws.{room}
use Rattle.lalrpop_verdicts.proofs.classes.classes_by.Given as goal

abbrev pub invariant-loop-classes : goal.invariant-loop-classes
invariant-loop-classes l = IsRound l.dfa l.classes.items

abbrev pub decreases-loop-classes : goal.decreases-loop-classes
decreases-loop-classes l = room (length l.dfa) l.classes.items
