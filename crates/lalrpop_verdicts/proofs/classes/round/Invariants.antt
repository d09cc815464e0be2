use Rattle.std.proofs.Common.{map}
use Rattle.lalrpop_verdicts.specs.Internal.Classes.{leads_row}
use Rattle.lalrpop_verdicts.proofs.NextClasses.{AreNextClasses}
use Rattle.lalrpop_verdicts.proofs.classes.round.Given as goal

abbrev pub invariant-loop-state : goal.invariant-loop-state
invariant-loop-state l = AreNextClasses (map (leads_row l.classes) l.table) l.classes l.state l.moved l.next.items
