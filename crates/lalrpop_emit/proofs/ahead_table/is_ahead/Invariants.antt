use Rattle.std.proofs.Common.{◌≡◌, ℕ, ◌+◌, ◌*◌, ◌<◌, Some}
use Rattle.std.specs.Prelude.{slice_get}
use Rattle.lalrpop_emit.specs.Ahead.{Standing}
use Rattle.lalrpop_emit.specs.Internal.Lists.{IsRightRow, ahead_numbers, list_numbers}
use Rattle.lalrpop_emit.proofs.ahead_table.is_ahead.Given as goal

-- the rows below the number are right
abbrev pub invariant-loop-number : goal.invariant-loop-number
invariant-loop-number l = (k : ℕ) (s : Standing) → k < l.number → slice_get l.standings k ≡ Some s
    → IsRightRow (ahead_numbers l.ahead) (list_numbers l.table) l.standings l.patience (k * (l.ahead.width + 1)) s
