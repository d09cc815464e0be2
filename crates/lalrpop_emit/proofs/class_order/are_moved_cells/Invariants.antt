use Rattle.std.proofs.Common.{ℕ, ◌<◌, ◌*◌, ◌+◌}
use Rattle.lalrpop_emit.specs.Internal.ClassOrder.{IsMovedRow}
use Rattle.lalrpop_emit.specs.Internal.Lists.{list_numbers}
use Rattle.lalrpop_emit.proofs.class_order.are_moved_cells.Given as goal

-- the rows so far are the same
abbrev pub invariant-loop-number : goal.invariant-loop-number
invariant-loop-number l = (k : ℕ) → k < l.number → IsMovedRow (list_numbers l.table) l.cells l.numbers (k * (l.table.width + 1))
