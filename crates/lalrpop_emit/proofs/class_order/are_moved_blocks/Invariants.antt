use Rattle.std.proofs.Common.{ℕ, ◌<◌}
use Rattle.lalrpop_emit.specs.Internal.ClassOrder.{IsMovedClass}
use Rattle.lalrpop_emit.specs.Internal.Lists.{list_numbers}
use Rattle.lalrpop_emit.proofs.class_order.are_moved_blocks.Given as goal

-- the classes before the place have their new numbers
abbrev pub invariant-loop-place : goal.invariant-loop-place
invariant-loop-place l = (k : ℕ) → k < l.place → IsMovedClass (list_numbers l.table) l.blocks l.numbers k
