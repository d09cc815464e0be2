use Rattle.std.proofs.Common.{◌^◌, ◌<◌}
use Rattle.std.specs.List.{All}
use Rattle.lalrpop_emit.specs.Internal.Lists.{list_numbers}
use Rattle.lalrpop_emit.specs.Internal.MadeRows.{AreRowsOf}
use Rattle.lalrpop_emit.specs.Internal.Standings.{standing_at, standing_cells}
use Rattle.lalrpop_emit.proofs.regular_ahead.all_cells.Given as goal

-- the rows so far
abbrev pub invariant-loop-standing : goal.invariant-loop-standing
invariant-loop-standing l = record {
  rows : AreRowsOf (λ k. standing_cells (list_numbers l.table) l.shape l.width (standing_at l.shape k)) l.width l.cells.items l.standing-index;
  small : All (λ n. n < 2 ^ 32) l.cells.items;
}
