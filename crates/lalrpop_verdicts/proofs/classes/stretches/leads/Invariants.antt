use Rattle.lalrpop_verdicts.proofs.StretchLaws.{AreLeadsSoFar}
use Rattle.lalrpop_verdicts.proofs.classes.stretches.leads.Given as goal

abbrev pub invariant-loop-number : goal.invariant-loop-number
invariant-loop-number l = AreLeadsSoFar l.dfa l.values l.number l.table.items
