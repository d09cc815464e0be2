use Rattle.std.proofs.Common.{◌≡◌, ◌≤◌, ◌++◌, take, drop}
use Rattle.std.specs.Str.Iter.{char_indices_rest, char_indices_offset}
use Rattle.lalrpop_hir.proofs.Cuts.{IsCut}
use Rattle.bajofeki_rules.proofs.QuotedRuns.{up_to}
use Rattle.bajofeki_rules.proofs.quote.push_characters.Given as goal

-- what was appended, and the characters since `from`, are the quoted form so far
abbrev pub invariant-loop-at : goal.invariant-loop-at
invariant-loop-at l = record {
  cut : IsCut l.slice (char_indices_offset l.at-iterator) (char_indices_rest l.at-iterator);
  from : l.from ≤ char_indices_offset l.at-iterator;
  written : l.bytes.items ++ drop l.from (take (char_indices_offset l.at-iterator) l.slice) ≡ l.fn.bytes.items ++ up_to l.slice (char_indices_offset l.at-iterator);
}
