use Rattle.std.proofs.Common.{ℕ, ◌<◌, get_or}
use Rattle.lalrpop_dense.specs.DenseTable.{table_numbers}
use Rattle.bajofeki.specs.Internal.Walking.{cell_of_block}
use Rattle.bajofeki.proofs.walker.is_last_row.Given as goal

abbrev pub invariant-loop-page : goal.invariant-loop-page
invariant-loop-page l = (k offset : ℕ) → k < l.page → offset < 128 → cell_of_block (table_numbers l.table) l.row (get_or l.table.pages.now k 0) offset < l.table.live
