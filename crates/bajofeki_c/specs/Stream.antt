-- cases: proofs/Cases/Stream.antt
-- A text that comes in chunks.
use Rattle.std.specs.Prelude.{◌≡◌, ◌⊎◌, ℕ, Bool, false, true, List, [], ◌∷◌, ◌++◌, length, take, drop, map, Option, Some, None, Result, Ok, Err}
use Rattle.lalrpop_rules.specs.declared.piece.Piece.{Piece as TextPiece}
use Rattle.bajofeki.specs.Chunked.{Chunked, GivesFinal, IsChunkError, IsHeldBack, nothing_come}
use Rattle.bajofeki.specs.declared.error.EditError.{EditError}
use Rattle.bajofeki_c.specs.Document.{code_of_edit, count_told, told}
use Rattle.bajofeki_c.specs.declared.cut.Piece.{Piece}
use Rattle.bajofeki_c.specs.declared.document.Count.{Count}
use Rattle.bajofeki_c.specs.declared.held.BuildError.{BuildError}
use Rattle.bajofeki_c.specs.declared.held.BuiltLexer.{BuiltLexer}
use Rattle.bajofeki_c.specs.declared.held.Held.{Held}
use Rattle.bajofeki_c.specs.declared.stream.Stream.{Stream}

-- ---- how it begins

abbrev pub IsBegunBy : Result BuiltLexer BuildError → Option Chunked → Type 0
IsBegunBy (Ok l) going = going ≡ Some (nothing_come l.rules)
IsBegunBy (Err f) going = going ≡ None

-- nothing has come, by the rules of a lexer; or there is none
abbrev pub IsStreamBegun : Held → Stream → Type 0
IsStreamBegun h s = IsBegunBy h.made s.going

-- ---- what comes

-- 0: the bytes have come, and after the last ones none does. Nothing has changed where memory is refused, 7, or once the text has ended, 8
abbrev pub IsFedOpen : Chunked → List ℕ → Bool → ℕ → Chunked → Type 0
IsFedOpen old bytes is_last code new =
    ((old.is_ended ≡ false) × ((code ≡ 0) × (new ≡ record old { last = []; rest = old.rest ++ bytes; is_ended = is_last })))
    ⊎ ((old.is_ended ≡ false) × ((code ≡ 7) × (new ≡ old)))
    ⊎ ((old.is_ended ≡ true) × ((code ≡ 8) × (new ≡ old)))

-- or there is no lexer
abbrev pub IsFedBetween : Option Chunked → List ℕ → Bool → ℕ → Option Chunked → Type 0
IsFedBetween (Some old) bytes is_last code (Some new) = IsFedOpen old bytes is_last code new
IsFedBetween (Some old) bytes is_last code None = ⊥
IsFedBetween None bytes is_last code new = (new ≡ None) × (code ≡ 9)

abbrev pub IsFed : Stream → List ℕ → Bool → ℕ → Stream → Type 0
IsFed old bytes is_last code new = IsFedBetween old.going bytes is_last code new.going

-- ---- what is given

-- these pieces, one after another, each of which no later byte can change
abbrev pub GivesAll : Chunked → List TextPiece → Chunked → Type 0
GivesAll c [] d = d ≡ c
GivesAll c (x ∷ xs) d = (e : Chunked) × (GivesFinal c (Some x) e × GivesAll e xs d)

-- why no more: none can be given; the array is full; or the error is right
abbrev pub IsEnd : Count → List Piece → Chunked → Type 0
IsEnd c after d = ((c.code ≡ 0) × IsHeldBack d) ⊎ ((c.code ≡ 2) × (c.count ≡ length after))
    ⊎ ((e : EditError) × ((c.code ≡ code_of_edit e) × IsChunkError d e))

-- n pieces are written, at the front of the array; what is after them is as it was
pub record AreGiven (old : Chunked) (before : List Piece) (n : ℕ) (after : List Piece) (new : Chunked) : Type 0 where
  pub pieces : List TextPiece
  pub given : GivesAll old pieces new
  pub count : n ≡ length pieces
  pub front : take n after ≡ map told pieces
  pub behind : drop n after ≡ drop n before

pub record GivesPieces (old : Chunked) (before : List Piece) (c : Count) (after : List Piece) (new : Chunked) : Type 0 where
  pub given : AreGiven old before c.count after new
  pub why : IsEnd c after new

abbrev pub GivesBetween : Option Chunked → List Piece → Count → List Piece → Option Chunked → Type 0
GivesBetween (Some old) before c after (Some new) = GivesPieces old before c after new
GivesBetween (Some old) before c after None = ⊥
GivesBetween None before c after new = (c ≡ count_told 9 0) × ((after ≡ before) × (new ≡ None))

abbrev pub GivesOn : Stream → List Piece → Count → List Piece → Stream → Type 0
GivesOn old before c after new = GivesBetween old.going before c after new.going
