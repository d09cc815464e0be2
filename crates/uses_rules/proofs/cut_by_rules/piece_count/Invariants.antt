use Rattle.std.proofs.Common.{◌≡◌, List, length, map}
use Rattle.std.specs.Prelude.{Ok}
use Rattle.std.specs.Iterator.{Yields}
use Rattle.lalrpop_rules.specs.declared.piece.Piece.{Piece}
use Rattle.lalrpop_rules.specs.ModeCut.{GivesPieceOrError}
use Rattle.uses_rules.proofs.cut_by_rules.piece_count.Given as goal

-- all items so far are pieces, and this is their number
abbrev pub invariant-loop-piece : goal.invariant-loop-piece
invariant-loop-piece l = (pieces : List Piece) × (Yields GivesPieceOrError l.initial.piece-iterator (map Ok pieces) l.piece-iterator × (l.count ≡ length pieces))
