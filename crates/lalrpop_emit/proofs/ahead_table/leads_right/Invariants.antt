use Rattle.lalrpop_emit.specs.Internal.Lists.{LeadsRight, ahead_numbers, list_numbers}
use Rattle.lalrpop_emit.proofs.ahead_table.leads_right.Given as goal

abbrev pub invariant-loop-column : goal.invariant-loop-column
invariant-loop-column l = LeadsRight (ahead_numbers l.ahead) (list_numbers l.table) l.standings l.row l.standing l.column
