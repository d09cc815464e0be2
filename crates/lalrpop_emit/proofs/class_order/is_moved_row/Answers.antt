use Rattle.std.proofs.Common.{◌≡◌, ℕ, arith}
use Rattle.std.proofs.lemmas.Bool.Decides.{nat_tests}
use borrow.Author.Count.{below_more}
use Rattle.lalrpop_emit.specs.Internal.ClassOrder.{IsMovedCell}
use Rattle.lalrpop_emit.specs.Internal.Lists.{list_numbers}
use Rattle.lalrpop_emit.proofs.class_order.is_moved_row.Goals as goal

pub loop-class-preserved : goal.loop-class-preserved
loop-class-preserved c =
    below_more (λ (k : ℕ). IsMovedCell (list_numbers c.args.table.now) c.args.cells.now c.args.numbers.now c.args.row k) c.loop-class.class c.loop-class.invariant
    (c.is_moved_cell.ensures c.if-not-is_moved_cell.false)

pub returns : goal.returns
returns c = λ test.
    let same : c.cell.result ≡ c.cell-2.result = grind (arith, nat_tests) in
    record {
      leads = λ k below. c.loop-class.invariant k (omega (arith, below, c.loop-class-test.false));
      rule = cc (c.cell.ensures, c.cell-2.ensures, c.deref.ensures.value);
    }
