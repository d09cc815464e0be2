-- cases: proofs/Cases/ByteCut.antt
-- A cut of a text of bytes that goes on, a piece at a time.
use Rattle.std.specs.Prelude.{◌≡◌, ℕ, ◌+◌, ◌-◌, ◌*◌, ◌^◌, true, false, List, length, min, Option, Some, None, take, reverse}
use Rattle.lalrpop_rules.specs.Modes.{ModeRules}
use Rattle.bajofeki_rules.specs.Stack.{Stack}
use Rattle.lalrpop_emit.specs.BytePieces.{Fits, IsModePiece, StopsAt, piece_actions, after_piece}
use Rattle.lalrpop_emit.specs.NumberedRules.{NumberedRules, row_words, waiting_rows}
use Rattle.lalrpop_emit.specs.declared.numbered_piece.NumberedPiece.{NumberedPiece}
-- a cutter: where it goes on, and what it has found of the text; and that this is true of a text, by these numbers. Before the first
-- piece it is so for each text, and each call keeps it so for the text that it is given: no more is to be known of it
pub use Rattle.lalrpop_emit.specs.Internal.Kept.{ByteCut, IsCutOf}

-- the next piece begins here
abbrev pub place_of : ByteCut → ℕ
place_of c = c.state.at

-- the modes there
abbrev pub stack_in : ByteCut → Stack
stack_in c = record { mode = c.state.mode; below = reverse (take c.state.depth c.below) }

-- the cut goes on at the same place, in the same modes
abbrev pub Stays : ByteCut → ByteCut → Type 0
Stays c d = (place_of d ≡ place_of c) × (stack_in d ≡ stack_in c)

-- the piece at the place of c, by the rules of the mode on top; after it the cut goes on as d. None comes at the end of the text
abbrev pub GivesBytePiece : ModeRules → List ℕ → List ℕ → ByteCut → Option NumberedPiece → ByteCut → Type 0
GivesBytePiece r kinds text c None d = StopsAt r kinds 1024 text true (place_of c) (stack_in c) × Stays c d
GivesBytePiece r kinds text c (Some p) d =
    IsModePiece r kinds text (place_of c) (stack_in c) p
    × Fits 1024 (piece_actions r.actions p) (stack_in c)
    × (place_of d ≡ place_of c + p.length)
    × (stack_in d ≡ after_piece r.actions p (stack_in c))

-- the piece at the place of c would put a mode on top of more than 1024 others; the cut doesn't go on
abbrev pub IsTooDeep : ModeRules → List ℕ → List ℕ → ByteCut → ByteCut → Type 0
IsTooDeep r kinds text c d = StopsAt r kinds 1024 text false (place_of c) (stack_in c) × Stays c d

-- ---- the memo, in which it is noted from where no match comes

-- how many words of 64 bits a cutter's memo has
abbrev pub memo_words : ByteCut → ℕ
memo_words c = length c.memo

-- it has those of each row that waits long, of all modes, in no more words than can be counted
abbrev pub HasMemoFor : NumberedRules → ℕ → ByteCut → Type 0
HasMemoFor n size c = memo_words c ≡ min (waiting_rows n.ahead * row_words size) (2 ^ 64 - 1)
