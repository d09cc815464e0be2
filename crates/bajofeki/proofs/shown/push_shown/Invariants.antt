use Rattle.std.proofs.Common.{◌≡◌, ◌≤◌, ◌++◌, take, drop, string_bytes}
use Rattle.std.specs.Str.{IsCharBoundary}
use Rattle.std.specs.Str.Iter.{char_indices_rest, char_indices_offset}
use Rattle.lalrpop_hir.proofs.Cuts.{IsCut}
use Rattle.bajofeki.proofs.ShownRuns.{shown_to}
use Rattle.bajofeki.proofs.shown.push_shown.Given as goal

-- what was appended, and the characters since `from`, are what is shown so far
abbrev pub invariant-loop-at : goal.invariant-loop-at
invariant-loop-at g l = record {
  cut : IsCut l.text (char_indices_offset l.at-iterator) (char_indices_rest l.at-iterator);
  from : l.from ≤ char_indices_offset l.at-iterator;
  begins : IsCharBoundary l.text l.from;
  shown : string_bytes l.page ++ drop l.from (take (char_indices_offset l.at-iterator) l.text)
      ≡ string_bytes l.initial.page ++ shown_to (g.S.Shows.shown l.style) l.text (char_indices_offset l.at-iterator);
}
