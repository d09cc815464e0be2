use Rattle.std.proofs.Common.{◌≡◌, ◌<◌, ◌≤◌, ◌*◌, ◌^◌, ℕ, length, map}
use Rattle.std.specs.List.{All}
use Rattle.lalrpop_emit.specs.NumberedRules.{AreCounted, IsStorableAhead, waiting_rows}
use Rattle.lalrpop_emit.specs.Internal.Lists.{AreAheadTables, AreModeTables, FitsTable, ahead_numbers, list_numbers}
use Rattle.lalrpop_emit.proofs.table_lists.mode_tables.Given as goal

-- the tables of the modes so far
abbrev pub invariant-loop-mode : goal.invariant-loop-mode
invariant-loop-mode l = record {
  modes : length l.tables.items ≡ l.mode;
  tables : AreModeTables l.rules (map list_numbers l.tables.items);
  all : length l.aheads.items ≡ l.mode;
  ahead : AreAheadTables (map ahead_numbers l.aheads.items) (map list_numbers l.tables.items);
  storable : All IsStorableAhead (map ahead_numbers l.aheads.items);
  counted : AreCounted (map ahead_numbers l.aheads.items);
  waiting : l.waiting ≡ waiting_rows (map ahead_numbers l.aheads.items);
  few : l.waiting ≤ l.mode * 2 ^ 32;
  fit : (m : ℕ) → m < l.mode → FitsTable l.rules m;
}
