use Rattle.std.proofs.Common.{◌+◌, ◌<◌, ℕ}
use Rattle.std.specs.Prelude.{IsTrue}
use Rattle.lalrpop_emit.specs.Ahead.{by_column, is_waiting}
use Rattle.lalrpop_emit.specs.Internal.Lists.{list_numbers, patience_in}
use Rattle.lalrpop_emit.proofs.ahead_table.leads_to_fewer.Given as goal

-- the columns so far lead to such
abbrev pub invariant-loop-column : goal.invariant-loop-column
invariant-loop-column l = (column : ℕ) → column < l.column → IsTrue (is_waiting (list_numbers l.table) (by_column (list_numbers l.table) l.width l.standing column))
    → patience_in l.patience (l.table.width + 1) (by_column (list_numbers l.table) l.width l.standing column) < l.most
