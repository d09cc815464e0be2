use Rattle.std.proofs.Common.{◌≡◌, take}
use Rattle.lalrpop_verdicts.specs.Internal.Classes.{leads_of}
use Rattle.lalrpop_verdicts.proofs.classes.stretches.leads_from.Given as goal

abbrev pub invariant-loop-value : goal.invariant-loop-value
invariant-loop-value l = l.row.items ≡ leads_of l.dfa (take l.value-index l.values) l.state
