use Rattle.std.proofs.Common.{◌-◌, ◌≤◌, length}
use Rattle.lalrpop_emit.specs.Internal.Lists.{ahead_numbers}
use Rattle.lalrpop_emit.proofs.AheadRows.{IsWalkedOn}
use Rattle.lalrpop_emit.proofs.ahead_rows.walk_on.Given as goal

abbrev pub invariant-walk : goal.invariant-walk
invariant-walk l = record {
  within : l.at ≤ length l.columns;
  walked : IsWalkedOn (ahead_numbers l.ahead) l.columns l.fn.rows l.rows l.from l.at l.row;
}

abbrev pub decreases-walk : goal.decreases-walk
decreases-walk l = length l.columns - l.at

abbrev pub invariant-same : goal.invariant-same
invariant-same l = record {
  further : l.initial.at ≤ l.at;
  within : l.at ≤ length l.columns;
  walked : IsWalkedOn (ahead_numbers l.ahead) l.columns l.fn.rows l.rows l.from l.at l.next;
}

abbrev pub decreases-same : goal.decreases-same
decreases-same l = length l.columns - l.at
