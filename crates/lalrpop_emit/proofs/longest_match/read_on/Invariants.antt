use Rattle.std.proofs.Common.{ℕ, ◌-◌, ◌≤◌, length}
use Rattle.lalrpop_emit.specs.Internal.AheadRows.{IsRowOf}
use Rattle.lalrpop_emit.specs.Internal.Lists.{ahead_numbers, list_numbers}
use Rattle.lalrpop_emit.specs.Internal.Memo.{IsInVain, IsLastMatch, IsRoomy, LeadOn, LeadTo, NothingFrom}
use Rattle.lalrpop_emit.proofs.longest_match.read_on.Given as goal

-- since the last match none has ended; so if none comes from the place on, none came from there on
abbrev pub invariant-walk : goal.invariant-walk
invariant-walk l = record {
  row : IsRowOf (ahead_numbers l.ahead) l.walk.row;
  last_row : IsRowOf (ahead_numbers l.ahead) l.last.row;
  behind : l.last.at ≤ l.walk.at;
  lead : (n : ℕ) × LeadTo (ahead_numbers l.ahead) (list_numbers l.table) l.text l.start n l.walk.row l.walk.at;
  last : IsLastMatch (ahead_numbers l.ahead) (list_numbers l.table) l.text l.start l.last.row l.last.at;
  since : NothingFrom (ahead_numbers l.ahead) (list_numbers l.table) l.text l.walk.row l.walk.at
      → NothingFrom (ahead_numbers l.ahead) (list_numbers l.table) l.text l.last.row l.last.at;
  lead_on : (n : ℕ) × LeadOn (ahead_numbers l.ahead) (list_numbers l.table) l.text l.last.row l.last.at n l.walk.row l.walk.at;
  in_vain : IsRoomy (ahead_numbers l.ahead) (length l.text) l.memo → (end : ℕ)
      → IsInVain (ahead_numbers l.ahead) (list_numbers l.table) l.text l.memo end l.walk.row l.walk.at
      → IsInVain (ahead_numbers l.ahead) (list_numbers l.table) l.text l.memo end l.last.row l.last.at;
}

abbrev pub decreases-walk : goal.decreases-walk
decreases-walk l = length l.text - l.walk.at
