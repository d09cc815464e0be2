use Rattle.lalrpop_emit.specs.Internal.MadeRows.{AreRows}
use Rattle.lalrpop_emit.proofs.made_table.all_rows.Given as goal

-- the rows so far
abbrev pub invariant-loop-number : goal.invariant-loop-number
invariant-loop-number l = AreRows l.dfa l.firsts l.cells.items l.number
