use Rattle.std.proofs.Common.{◌≡◌, ◌≢◌, ℕ, ◌+◌, ◌<◌, ◌≤◌, true, List, ◌++◌, length, drop}
use Rattle.std.specs.Str.{chars}
use Rattle.std.specs.Str.Iter.{char_indices_rest, char_indices_offset}
use Rattle.lalrpop_hir.proofs.Cuts.{IsCut}
use Rattle.bajofeki.specs.Internal.Walking.{IsMet}
use Rattle.bajofeki.specs.Internal.Noted.{IsKnown, IsNoted, IsOver, IsSound}
use Rattle.bajofeki.specs.Internal.Paying.{AreUnknown}
use Rattle.bajofeki.proofs.NewNotes.{AreCounted, AreNoted}
use Rattle.bajofeki.proofs.run.note_all.Given as goal

abbrev pub invariant-loop-offset : goal.invariant-loop-offset
invariant-loop-offset l = record {
  cut : IsCut l.text (char_indices_offset l.offset-iterator) (char_indices_rest l.offset-iterator);
  met : IsMet l.walker l.place;
  over : (n : ℕ) × ((l.size ≡ char_indices_offset l.offset-iterator + n) × IsOver l.walker l.place (chars (char_indices_rest l.offset-iterator)) n);
  sound : (begin i : ℕ) (all : List ℕ) → begin + i ≡ l.at → i ≤ length all → drop i all ≡ l.text → IsSound l.walker l.initial.memo l.mode begin all
      → IsSound l.walker l.memo l.mode begin all;
  others : (m p e n : ℕ) → m ≢ l.mode → IsNoted l.memo m p e n → IsNoted l.initial.memo m p e n;
  stays : (m p e : ℕ) → IsKnown l.initial.memo m p e → IsKnown l.memo m p e;
  whole : l.memo.is_whole ≡ true → l.initial.memo.is_whole ≡ true;
  near : char_indices_offset l.offset-iterator < l.until;
  cost : l.steps ≤ l.initial.steps + char_indices_offset l.offset-iterator;
  counts : l.initial.steps ≤ l.steps;
  counted : (vain more : List ℕ) → chars l.text ≡ vain ++ more → AreUnknown l.walker l.initial.memo l.mode l.at l.from vain
      → AreCounted l.walker l.initial.memo l.mode l.at vain more (char_indices_offset l.offset-iterator) l.place (char_indices_rest l.offset-iterator) l.initial.steps l.steps;
  news : l.memo.is_whole ≡ true → (vain more : List ℕ) → chars l.text ≡ vain ++ more → AreUnknown l.walker l.initial.memo l.mode l.at l.from vain
      → AreNoted l.walker l.initial.memo l.memo l.mode l.at l.text vain more (char_indices_offset l.offset-iterator) l.place (char_indices_rest l.offset-iterator);
}
