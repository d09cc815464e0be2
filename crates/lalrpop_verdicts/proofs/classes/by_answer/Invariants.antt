use Rattle.std.proofs.Common.{map, take}
use Rattle.lalrpop_verdicts.specs.Internal.Classes.{AreFirsts}
use Rattle.lalrpop_verdicts.proofs.RoundLaws.{stored_row}
use Rattle.lalrpop_verdicts.proofs.classes.by_answer.Given as goal

abbrev pub invariant-loop-state : goal.invariant-loop-state
invariant-loop-state l = AreFirsts (map stored_row (take l.state-index l.state-items)) l.classes.known l.classes.places.items
