-- cases: proofs/Cases/Given.antt
-- A piece of a text that comes in chunks, as a piece of any text.
use Rattle.std.specs.Prelude.{Bool, true, false, ℕ, List, Option, Some, None}
use Rattle.std.specs.Borrow.{Bor}
use Rattle.lalrpop_rules.specs.declared.piece.Piece.{Piece}
use Rattle.lalrpop_rules.specs.declared.piece.Piece.TheVariants.{Token, Skipped, Fault}
use Rattle.bajofeki.specs.declared.given_piece.GivenPiece.{GivenPiece}

-- the piece at a place: a token of this rule, skipped or not; a fault by none
abbrev pub item_by : Option ℕ → Bool → ℕ → Bor (List ℕ) → Piece
item_by None skipped at slice = Fault at slice
item_by (Some i) true at slice = Skipped (record { index = i; slice = slice; start = at })
item_by (Some i) false at slice = Token (record { index = i; slice = slice; start = at })

-- the same of its parts, and of its slice of the text
abbrev pub piece_of : GivenPiece → Bor (List ℕ) → Piece
piece_of p slice = item_by p.rule p.is_skipped p.start slice
