-- cases: proofs/Cases/CutToEnd.antt
-- What one call gives while a text is cut to its end in one mode, and what it costs.
use Rattle.std.specs.Prelude.{◌≡◌, ℕ, ◌+◌, ◌*◌, ◌≤◌, Bool, List, [], length, drop, Option, Some, None}
use Rattle.std.specs.Str.{chars}
use Rattle.lalrpop_lexer.specs.Rules.{Rules}
use Rattle.lalrpop_rules.specs.Pieces.{IsPiece, slice_of}
use Rattle.lalrpop_rules.specs.declared.piece.Piece.{Piece}
use Rattle.lalrpop_rules.specs.declared.piece.Piece.TheVariants.{Token, Skipped, Fault}

-- what a memo has left: how many characters of the text come after the last match that was found, and how many may still be read
-- besides those of the matches and 64 for each call
pub record Memo : Type 0 where
  pub unsought : ℕ
  pub spare : ℕ

-- how many characters may still be read: 65 for each character after the last match, and those to spare
abbrev pub steps_for : Memo → ℕ
steps_for m = 65 * m.unsought + m.spare

-- a text that is cut: by which rules, which of them are skipped, and where its rest begins, in bytes; and how many characters have been
-- read so far, each counted as often as it was read
pub record CutToEnd : Type 0 where
  pub rules : Rules
  pub skips : List Bool
  pub text : List ℕ
  pub at : ℕ
  pub memo : Memo
  pub steps : ℕ

-- nothing is cut yet
abbrev pub uncut : Rules → List Bool → List ℕ → Memo → CutToEnd
uncut rules skips text memo = record { rules = rules; skips = skips; text = text; at = 0; memo = memo; steps = 0 }

-- the rest of the text
abbrev pub left_text : CutToEnd → List ℕ
left_text s = drop s.at s.text

-- the count never falls, and what was left pays for the characters that are read
abbrev pub IsPaid : ℕ → Memo → ℕ → Memo → Type 0
IsPaid before m after n = (before ≤ after) × (after + steps_for n ≤ before + steps_for m)

-- what one call gives: nothing, and nothing changes, if no rest is left; otherwise the piece at the front of the rest, which is paid for,
-- and the new rest begins after it
abbrev pub GivesPiece : CutToEnd → Option Piece → CutToEnd → Type 0
GivesPiece old None new = (new ≡ old) × (left_text old ≡ [])
GivesPiece old (Some piece) new =
    IsPiece old.rules.trees old.rules.precedences old.skips old.text old.at piece
    × (new ≡ record old { at = old.at + length (slice_of piece); memo = new.memo; steps = new.steps })
    × IsPaid old.steps old.memo new.steps new.memo

-- matches are sought from the beginning of the rest on: none is found yet
abbrev pub IsSoughtFromRest : CutToEnd → Type 0
IsSoughtFromRest s = s.memo.unsought ≡ length (chars (left_text s))

-- so it is after a token; after a fault, the match right after it may be found already
abbrev pub IsSoughtAfterPiece : Piece → CutToEnd → Type 0
IsSoughtAfterPiece (Token token) s = IsSoughtFromRest s
IsSoughtAfterPiece (Skipped token) s = IsSoughtFromRest s
IsSoughtAfterPiece (Fault start slice) s = Unit {0}

-- what is spent is counted: what was to spare pays for it
abbrev pub IsSpent : ℕ → Memo → ℕ → Memo → Type 0
IsSpent before m after n = (before ≤ after) × (after + n.spare ≤ before + m.spare)

-- from now on the rest begins at this place, and matches are sought from there; what was read ahead in vain is spent
abbrev pub PassesTo : CutToEnd → ℕ → CutToEnd → Type 0
PassesTo old at new =
    (new ≡ record old { at = at; memo = new.memo; steps = new.steps })
    × IsSoughtFromRest new
    × IsSpent old.steps old.memo new.steps new.memo
