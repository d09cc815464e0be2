use Rattle.std.proofs.Common.{◌-◌, ◌≤◌, length}
use Rattle.lalrpop_emit.specs.Internal.Lists.{list_numbers}
use Rattle.lalrpop_emit.proofs.BlockColumns.{GoOn}
use Rattle.lalrpop_emit.proofs.ahead_columns.columns_of.Given as goal

abbrev pub invariant-runs : goal.invariant-runs
invariant-runs l = record {
  within : l.at ≤ length l.columns;
  columns : GoOn (list_numbers l.table) l.ahead.width l.text l.from l.columns l.at l.left;
}

abbrev pub decreases-runs : goal.decreases-runs
decreases-runs l = length l.columns - l.at

abbrev pub invariant-any : goal.invariant-any
invariant-any l = GoOn (list_numbers l.table) l.ahead.width l.text l.from l.columns l.k l.left
