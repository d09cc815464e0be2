-- cases: proofs/Cases/Cut.antt
-- A text cut on, into an array.
use Rattle.std.specs.Prelude.{◌≡◌, ◌⊎◌, ℕ, ◌<◌, if◌then◌else◌, Bool, true, false, List, length, take, drop, map, Option, Some, None, Result, Ok, Err}
use Rattle.lalrpop_emit.specs.ByteCut.{ByteCut, IsCutOf, place_of, stack_in}
use Rattle.lalrpop_emit.specs.BytePieces.{AreBytePiecesTo, StopsAt}
use Rattle.lalrpop_emit.specs.NumberedRules.{AreNumbersOf}
use Rattle.lalrpop_emit.specs.declared.numbered_piece.NumberedPiece.{NumberedPiece}
use Rattle.lalrpop_rules.specs.Modes.{ModeRules}
use Rattle.bajofeki_c.specs.Rules.{is_skipped}
use Rattle.bajofeki_c.specs.declared.cut.Cut.{Cut}
use Rattle.bajofeki_c.specs.declared.cut.Piece.{Piece}
use Rattle.bajofeki_c.specs.declared.cutting.BeginError.{BeginError}
use Rattle.bajofeki_c.specs.declared.cutting.Cutting.{Cutting}
use Rattle.bajofeki_c.specs.declared.held.BuildError.{BuildError}
use Rattle.bajofeki_c.specs.declared.held.BuiltLexer.{BuiltLexer}
use Rattle.bajofeki_c.specs.declared.held.Held.{Held}

-- ---- a piece in numbers

-- 0 of a token, 1 of one whose rule is skipped, 2 of a fault
abbrev pub kind_told : List Bool → Option ℕ → ℕ → ℕ
kind_told skips None rule = 2
kind_told skips (Some kind) rule = if is_skipped skips rule then 1 else 0

abbrev pub told : List Bool → NumberedPiece → Piece
told skips p = record { kind = kind_told skips p.kind p.rule; rule = p.rule; start = p.start; length = p.length }

-- ---- the array

-- the pieces that come between two states of the cut
abbrev pub AreBetween : ModeRules → List ℕ → List ℕ → ByteCut → List NumberedPiece → ByteCut → Type 0
AreBetween r kinds text c ps d = AreBytePiecesTo r kinds 1024 text (place_of c) (stack_in c) ps (place_of d) (stack_in d)

-- these are n pieces, at the front of the array; what is after them is as it was
pub record AreFilled (l : BuiltLexer) (text : List ℕ) (c : ByteCut) (before : List Piece) (n : ℕ) (after : List Piece) (d : ByteCut) : Type 0 where
  pub pieces : List NumberedPiece
  pub between : (r : ModeRules) → AreNumbersOf r l.numbers → AreBetween r l.numbers.kinds text c pieces d
  pub count : n ≡ length pieces
  pub front : take n after ≡ map (told l.rules.skips) pieces
  pub behind : drop n after ≡ drop n before

-- why no more are written: the text is at its end; the array is full, and text is left; or the next token goes too deep
abbrev pub IsEnd : ModeRules → List ℕ → List ℕ → List Piece → Cut → ByteCut → Type 0
IsEnd r kinds text after cut d =
    ((cut.code ≡ 0) × StopsAt r kinds 1024 text true (place_of d) (stack_in d))
    ⊎ (((cut.code ≡ 2) × (cut.count ≡ length after)) × (place_of d < length text))
    ⊎ ((cut.code ≡ 4) × StopsAt r kinds 1024 text false (place_of d) (stack_in d))

-- the pieces that are counted are written, up to the place of d
pub record IsFilled (l : BuiltLexer) (text : List ℕ) (c : ByteCut) (before : List Piece) (cut : Cut) (after : List Piece) (d : ByteCut) : Type 0 where
  pub filled : AreFilled l text c before cut.count after d
  pub end : cut.end ≡ place_of d
  pub why : (r : ModeRules) → AreNumbersOf r l.numbers → IsEnd r l.numbers.kinds text after cut d

abbrev pub none : Cut
none = record { code = 9; count = 0; end = 0 }

-- with no lexer or no cut nothing is written, and nothing changes
abbrev pub IsCutBetween : Result BuiltLexer BuildError → List ℕ → Result ByteCut BeginError → List Piece → Cut → List Piece → Result ByteCut BeginError → Type 0
IsCutBetween (Ok l) text (Ok c) before cut after (Ok d) = IsFilled l text c before cut after d
IsCutBetween (Ok l) text (Ok c) before cut after (Err e) = ⊥
IsCutBetween made text x before cut after y = (cut ≡ none) × (after ≡ before) × (y ≡ x)

abbrev pub IsCutOn : Held → List ℕ → Cutting → List Piece → Cut → List Piece → Cutting → Type 0
IsCutOn h text c before cut after d = IsCutBetween h.made text c.cutter before cut after d.cutter

-- it is the cut of this text by this lexer, if there are both
abbrev pub IsOf : Result BuiltLexer BuildError → List ℕ → Result ByteCut BeginError → Type 0
IsOf (Ok l) text (Ok c) = IsCutOf l.numbers text c
IsOf _ text _ = Unit {0}

abbrev pub GoesOn : Held → List ℕ → Cutting → Type 0
GoesOn h text c = IsOf h.made text c.cutter
