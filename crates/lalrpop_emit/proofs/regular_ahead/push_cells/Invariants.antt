use Rattle.std.proofs.Common.{◌≡◌, ◌++◌, ◌+◌, ◌*◌, ◌^◌, ◌<◌, map}
use Rattle.std.specs.List.{All, range_with_len}
use Rattle.lalrpop_emit.specs.Ahead.{by_column}
use Rattle.lalrpop_emit.specs.Internal.Lists.{list_numbers}
use Rattle.lalrpop_emit.specs.Internal.Standings.{place_in}
use Rattle.lalrpop_emit.proofs.regular_ahead.push_cells.Given as goal

-- the columns so far
abbrev pub invariant-loop-column : goal.invariant-loop-column
invariant-loop-column l = record {
  cells : l.cells.items ≡ l.initial.cells.items ++ map (λ column. place_in l.shape (by_column (list_numbers l.table) l.width l.standing column) * (l.width + 1)) (range_with_len 0 l.column);
  small : All (λ n. n < 2 ^ 32) l.cells.items;
}
