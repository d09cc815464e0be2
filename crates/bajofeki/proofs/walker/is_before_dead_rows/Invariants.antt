use Rattle.std.proofs.Common.{ℕ, ◌+◌, ◌<◌, get_or}
use Rattle.lalrpop_dense.specs.DenseTable.{cell_numbers}
use Rattle.bajofeki.proofs.walker.is_before_dead_rows.Given as goal

abbrev pub invariant-loop-class : goal.invariant-loop-class
invariant-loop-class l = (k : ℕ) → k < l.class → get_or (cell_numbers l.table.cells) (l.row + k) 0 < l.table.live
