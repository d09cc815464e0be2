use Rattle.std.proofs.Common.{◌-◌, length}
use Rattle.lalrpop_emit.specs.Internal.AheadRows.{IsRowOf}
use Rattle.lalrpop_emit.specs.Internal.Lists.{ahead_numbers, list_numbers}
use Rattle.lalrpop_emit.specs.Internal.Memo.{IsInVain, IsMemoFor, IsRoomy, NothingFrom}
use Rattle.lalrpop_emit.proofs.MemoCosts.{IsPaidUpTo}
use Rattle.lalrpop_emit.proofs.longest_match.note_walk.Given as goal

abbrev pub invariant-again : goal.invariant-again
invariant-again l = record {
  row : IsRowOf (ahead_numbers l.ahead) l.walk.row;
  nothing : NothingFrom (ahead_numbers l.ahead) (list_numbers l.table) l.text l.walk.row l.walk.at;
  memo : IsMemoFor (ahead_numbers l.ahead) (list_numbers l.table) l.text l.memo;
  paid : IsRoomy (ahead_numbers l.ahead) (length l.text) l.initial.memo
      → IsInVain (ahead_numbers l.ahead) (list_numbers l.table) l.text l.initial.memo l.end l.initial.walk.row l.initial.walk.at
      → IsPaidUpTo (ahead_numbers l.ahead) (list_numbers l.table) l.text l.initial.memo l.memo l.end l.initial.walk.at l.walk.row l.walk.at;
}

abbrev pub decreases-again : goal.decreases-again
decreases-again l = l.end - l.walk.at
