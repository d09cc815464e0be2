-- The match at the front of a rest, and the place from which the next ones are sought.
use Rattle.std.specs.Prelude.{◌≡◌, ◌≢◌, ℕ, ◌+◌, ◌<◌, List, [], ◌++◌, length, drop, Option, Some, None, IfSome}
use Rattle.std.specs.Option.{option_map}
use Rattle.std.specs.Borrow.{Bor}
use Rattle.std.specs.Char.{encode_utf8}
use Rattle.std.specs.Str.{chars, IsUtf8, IsCharBoundary}
use Rattle.lalrpop_hir.specs.Tree.{Tree}
use Rattle.lalrpop_hir.specs.Longest.{IsLongest}
use Rattle.lalrpop_hir.specs.Prefix.{IsPrefix}
use Rattle.lalrpop_lexer.specs.Dfa.{Row}
use Rattle.lalrpop_lexer.specs.Matching.{Matching, rest_of}
use Rattle.lalrpop_lexer.specs.Rules.{IsBuiltFrom}
use Rattle.lalrpop_rules.specs.Found.{NoMatchBefore}
use Rattle.lalrpop_rules.specs.Internal.CutToEnd.{Memo}

-- a match: the index of its pattern, and its slice
abbrev pub Match : Type 0
Match = ℕ × Bor (List ℕ)

-- what a memo has left
abbrev pub memo_of : Matching → Memo
memo_of m = record { unsought = length (chars (rest_of m)); spare = m.spare }

-- a text with something left in it
abbrev pub IsSomeText : List ℕ → Type 0
IsSomeText text = (text ≢ []) × IsUtf8 text

-- what holds of any trees and precedences that the automaton is built from
abbrev pub ForRules : List Row → (List Tree → List ℕ → Type 0) → Type 0
ForRules d P = (ts : List Tree) (ps : List ℕ) → IsBuiltFrom ts ps d → P ts ps

-- this is the longest match of the rest, or there is none
abbrev pub IsMatchOf : List Row → List ℕ → Option Match → Type 0
IsMatchOf d rest found = ForRules d (λ ts ps. IsLongest ts ps rest (option_map (λ m. (m.0, m.1.now)) found))

-- the new rest begins after the match, or after the first character if there is none
abbrev pub Passes : Matching → Matching → Option Match → Type 0
Passes old new (Some m) = IsPrefix m.1.now (rest_of old) × (new ≡ record old { at = old.at + length m.1.now; spare = new.spare })
Passes old new None =
    (c : ℕ) × ((rest_of old ≡ encode_utf8 c ++ rest_of new) × (new ≡ record old { at = old.at + length (encode_utf8 c); spare = new.spare }))

-- how many bytes a match has, if there is one
abbrev pub bytes_of : Option Match → ℕ
bytes_of None = 0
bytes_of (Some m) = length m.1.now

-- matches of the text are sought from this place on
pub record IsSoughtFrom (text : List ℕ) (place : ℕ) (m : Matching) : Type 0 where
  pub same : m.text ≡ text
  pub here : m.at ≡ place
  pub boundary : IsCharBoundary text place

-- a text between two calls: its rest begins at `at`, and matches are sought from there, or, if the match at its front is kept, after it
pub record IsWaiting (text : List ℕ) (at : ℕ) (kept : Option Match) (m : Matching) : Type 0 where
  pub utf8 : IsUtf8 text
  pub boundary : IsCharBoundary text at
  pub first : IfSome kept (λ k. IsMatchOf m.automaton (drop at text) (Some k))
  pub sought : IsSoughtFrom text (at + bytes_of kept) m

-- within a fault: from `at` on, nothing matches before the place from which matches are sought
pub record IsPassing (text : List ℕ) (at : ℕ) (m : Matching) : Type 0 where
  pub utf8 : IsUtf8 text
  pub boundary : IsCharBoundary text at
  pub passed : ℕ
  pub sought : IsSoughtFrom text (at + passed) m
  pub nothing : ForRules m.automaton (λ ts ps. NoMatchBefore ts (drop at text) passed)

-- the match at the front of the rest is known; or nothing matches there, and the first character is passed
abbrev pub IsAtFront : List ℕ → ℕ → Option Match → Option Match → Matching → Type 0
IsAtFront text at (Some f) kept m = IsMatchOf m.automaton (drop at text) (Some f) × IsWaiting text (at + length f.1.now) kept m
IsAtFront text at None kept m = IsPassing text at m × (at < m.at)
