use Rattle.std.proofs.Common.{ℕ, ◌+◌, ◌*◌, arith}
use borrow.Author.Count.{below_more}
use Rattle.lalrpop_emit.specs.Internal.ClassOrder.{IsMovedRow}
use Rattle.lalrpop_emit.specs.Internal.Lists.{list_numbers}
use Rattle.lalrpop_emit.proofs.ClassOrder.{cells_moved}
use Rattle.lalrpop_emit.proofs.class_order.are_moved_cells.Goals as goal

pub loop-number-preserved : goal.loop-number-preserved
loop-number-preserved c =
    below_more (λ (k : ℕ). IsMovedRow (list_numbers c.args.table.now) c.args.cells.now c.args.numbers.now (k * (c.args.table.now.width + 1))) c.loop-number.number
    c.loop-number.invariant (c.is_moved_row.ensures c.if-not-is_moved_row.false)

pub returns : goal.returns
returns c = λ _.
    cells_moved (list_numbers c.args.table.now) c.args.cells.now c.args.numbers.now (omega (arith, c.if-cells-len.false, c.len.ensures))
    (λ k below. c.loop-number.invariant k (omega (arith, below, c.loop-number-test.false)))
