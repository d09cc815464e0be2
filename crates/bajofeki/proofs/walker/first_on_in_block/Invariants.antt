use Rattle.std.proofs.Common.{ℕ, ◌<◌}
use Rattle.lalrpop_dense.specs.DenseTable.{table_numbers}
use Rattle.bajofeki.specs.Internal.Walking.{cell_of_block}
use Rattle.bajofeki.proofs.walker.first_on_in_block.Given as goal

abbrev pub invariant-loop-offset : goal.invariant-loop-offset
invariant-loop-offset l = (k : ℕ) → k < l.offset → cell_of_block (table_numbers l.table) l.row l.block k < l.table.live
