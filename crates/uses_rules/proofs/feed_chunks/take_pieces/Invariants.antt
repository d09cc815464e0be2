use Rattle.std.proofs.Common.{◌≡◌, ℕ, List, length}
use Rattle.lalrpop_rules.specs.Modes.{ModeRules}
use Rattle.lalrpop_rules.specs.Pieces.{joined}
use Rattle.lalrpop_rules.specs.declared.piece.Piece.{Piece}
use Rattle.bajofeki.specs.Chunked.{Came}
use Rattle.uses_rules.proofs.feed_chunks.take_pieces.Given as goal

-- the bytes so far are those of all pieces that were given
abbrev pub invariant-pieces : goal.invariant-pieces
invariant-pieces l =
    ((r : ModeRules) (text : List ℕ) (xs : List Piece) → Came r text xs l.fn.chunks → l.fn.whole.items ≡ joined xs
    → (ys : List Piece) × (Came r text ys l.chunks × (l.whole.items ≡ joined ys)))
    × (l.chunks.is_ended ≡ l.fn.chunks.is_ended)

abbrev pub decreases-pieces : goal.decreases-pieces
decreases-pieces l = length l.chunks.rest
