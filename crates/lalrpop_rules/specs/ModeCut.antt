-- cases: proofs/Cases/ModeCut.antt
-- What one call gives while a text is cut by rules with modes, and what it costs.
use Rattle.std.specs.Prelude.{◌≡◌, ◌≢◌, ℕ, ◌+◌, ◌≤◌, ◌⊎◌, Bool, true, false, List, [], length, drop, if◌then◌else◌, Option, Some, None, Result, Ok, Err, sum_by}
use Rattle.std.specs.Str.{chars}
use Rattle.std.specs.declared.alloc.AllocError.{AllocError}
use Rattle.lalrpop_lexer.specs.Matching.{open_states}
use Rattle.lalrpop_rules.specs.Pieces.{IsPiece, slice_of}
use Rattle.lalrpop_rules.specs.declared.piece.Piece.{Piece}
use Rattle.bajofeki_rules.specs.Stack.{Stack, start}
use Rattle.lalrpop_rules.specs.Modes.{ModeRules, trees_in, after}

-- a text that is cut: by which rules, where its rest begins, in bytes, and the stack of modes there; how many characters have been read so
-- far, each counted as often as it was read, and how many may still be read up to the end of the text. It is over for `next`, but not for
-- `next_piece`, once `next` has returned an error.
pub record ModeCut : Type 0 where
  pub rules : ModeRules
  pub text : List ℕ
  pub at : ℕ
  pub stack : Stack
  pub steps : ℕ
  pub steps_left : ℕ
  pub is_over : Bool

-- nothing is cut yet
abbrev pub uncut : ModeRules → List ℕ → ℕ → ModeCut
uncut rules text most = record { rules = rules; text = text; at = 0; stack = start; steps = 0; steps_left = most; is_over = false }

-- the rest of the text
abbrev pub left_text : ModeCut → List ℕ
left_text s = drop s.at s.text

-- how many states of the automata of all modes neither accept a pattern nor reject
abbrev pub open_in_all : ModeRules → ℕ
open_in_all r = sum_by open_states r.automata

-- the count never falls, and no more characters are read than were left
abbrev pub IsCounted : ModeCut → ModeCut → Type 0
IsCounted old new = (old.steps ≤ new.steps) × (new.steps + new.steps_left ≤ old.steps + old.steps_left)

-- what one call of `next_piece` gives: nothing, and nothing changes, if no rest is left; otherwise the piece at the front of the rest by the rules of the
-- mode on top, whose steps are counted; the new rest begins after it, and the stack is the one after it
abbrev pub GivesModePiece : ModeCut → Option Piece → ModeCut → Type 0
GivesModePiece old None new = (new ≡ old) × (left_text old ≡ [])
GivesModePiece old (Some piece) new =
    IsPiece (trees_in old.rules old.stack.mode) old.rules.precedences old.rules.skips old.text old.at piece
    × (new ≡ record old { at = old.at + length (slice_of piece); stack = after old.rules.actions piece old.stack; steps = new.steps; steps_left = new.steps_left })
    × IsCounted old new

-- what one call of `next` gives: nothing, and nothing changes, after an error or if no rest is left; a piece as `next_piece` gives it; or an
-- error where a rest is left, and nothing changes but that it is over
abbrev pub GivesPieceOrError : ModeCut → Option (Result Piece AllocError) → ModeCut → Type 0
GivesPieceOrError old None new = (new ≡ old) × ((old.is_over ≡ true) ⊎ (left_text old ≡ []))
GivesPieceOrError old (Some (Ok piece)) new = (old.is_over ≡ false) × GivesModePiece old (Some piece) new
GivesPieceOrError old (Some (Err error)) new = (old.is_over ≡ false) × (left_text old ≢ []) × (new ≡ record old { is_over = true })

-- the most items that `next` still gives: none after an error, otherwise one for each character of the rest
abbrev pub pieces_left : ModeCut → ℕ
pieces_left s = if s.is_over then 0 else length (chars (left_text s))
