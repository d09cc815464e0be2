use Rattle.std.proofs.Common.{ℕ, ◌<◌}
use Rattle.lalrpop_emit.specs.Internal.ClassOrder.{IsMovedCell}
use Rattle.lalrpop_emit.specs.Internal.Lists.{list_numbers}
use Rattle.lalrpop_emit.proofs.class_order.is_moved_row.Given as goal

-- the classes so far lead to the same rows
abbrev pub invariant-loop-class : goal.invariant-loop-class
invariant-loop-class l = (k : ℕ) → k < l.class → IsMovedCell (list_numbers l.table) l.cells l.numbers l.row k
