use Rattle.std.proofs.Common.{◌≡◌, ◌≢◌, ℕ, ◌+◌, ◌*◌, ◌<◌, ◌≤◌, true, List, length}
use Rattle.std.specs.Prelude.{None}
use Rattle.std.specs.Str.Iter.{char_indices_rest, char_indices_offset}
use Rattle.lalrpop_hir.specs.Tree.{Tree}
use Rattle.lalrpop_dfa.specs.Dfa.{Row, RecognizesAll}
use Rattle.lalrpop_dfa.specs.Lookahead.{IsTrim}
use Rattle.lalrpop_hir.proofs.Cuts.{IsCut}
use Rattle.lalrpop_rules.specs.Found.{NoMatchBefore}
use Rattle.bajofeki.proofs.Fronts.{AreRead, BeginsMore}
use Rattle.bajofeki.proofs.FrontCosts.{IsWalked}
use Rattle.bajofeki.specs.Internal.Kept.{IsReadFor}
use Rattle.bajofeki.specs.Internal.Parts.{IsVoidTo}
use Rattle.bajofeki.specs.Internal.Walking.{IsWalkerOf}
use Rattle.bajofeki.specs.Internal.Noted.{IsKnown, IsNoted, IsSound}
use Rattle.bajofeki.proofs.front.front_by.Given as goal

abbrev pub invariant-loop-offset : goal.invariant-loop-offset
invariant-loop-offset l = record {
  cut : IsCut l.rest (char_indices_offset l.offset-iterator) (char_indices_rest l.offset-iterator);
  before : (d : List Row) (ts : List Tree) (ps : List ℕ) → IsWalkerOf l.walker d → RecognizesAll d ts ps → NoMatchBefore ts l.rest (char_indices_offset l.offset-iterator);
  read : (d : List Row) (ts : List Tree) (ps : List ℕ) → IsWalkerOf l.walker d → RecognizesAll d ts ps → AreRead ts l.rest (char_indices_offset l.offset-iterator) l.reach;
  within : l.reach ≤ length l.rest + 1;
  held : length l.rest < l.reach → (d : List Row) (ts : List Tree) (ps : List ℕ) → IsWalkerOf l.walker d → IsTrim d → RecognizesAll d ts ps → (k : ℕ) × BeginsMore ts l.rest k;
  sound : IsSound l.walker l.memo l.mode l.at l.rest;
  others : (m p e n : ℕ) → m ≢ l.mode → IsNoted l.memo m p e n → IsNoted l.initial.memo m p e n;
  stays : (m p e : ℕ) → IsKnown l.initial.memo m p e → IsKnown l.memo m p e;
  whole : l.memo.is_whole ≡ true → l.initial.memo.is_whole ≡ true;
  reads : (d : List Row) (ts : List Tree) (ps : List ℕ) → IsWalkerOf l.walker d → IsTrim d → RecognizesAll d ts ps → IsReadFor ts l.rest None (char_indices_offset l.offset-iterator) l.reach;
  paid : l.memo.is_whole ≡ true → (d : List Row) (ts : List Tree) (ps : List ℕ) → IsWalkerOf l.walker d → IsTrim d → RecognizesAll d ts ps
      → (news : List (ℕ × (ℕ × ℕ))) × ((far : ℕ) × (IsWalked l.walker ts l.initial.memo l.memo l.mode l.at l.rest (char_indices_offset l.offset-iterator) news far
      × (l.steps ≤ l.initial.steps + 134 * char_indices_offset l.offset-iterator + 128 * length news)));
  never_falls : l.initial.steps ≤ l.steps;
  void : (d : List Row) (ts : List Tree) (ps : List ℕ) → IsWalkerOf l.walker d → RecognizesAll d ts ps → IsVoidTo ts l.rest l.void;
}
