use Rattle.std.proofs.Common.{◌≡◌, take}
use Rattle.lalrpop_dense.proofs.table.narrow.Given as goal

abbrev pub invariant-loop-cell : goal.invariant-loop-cell
invariant-loop-cell l = l.narrow.items ≡ take l.cell-index l.cells
