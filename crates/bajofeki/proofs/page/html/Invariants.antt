use Rattle.std.proofs.Common.{◌≡◌, List, flat_map, map, string_bytes}
use Rattle.std.specs.Prelude.{Ok}
use Rattle.std.specs.Iterator.{Yields}
use Rattle.lalrpop_rules.specs.ModeCut.{GivesPieceOrError}
use Rattle.lalrpop_rules.specs.declared.piece.Piece.{Piece}
use Rattle.bajofeki.specs.Markup.{marked}
use Rattle.bajofeki.proofs.page.html.Given as goal

-- the pieces so far
abbrev pub invariant-loop-piece : goal.invariant-loop-piece
invariant-loop-piece l =
    (xs : List Piece) × (Yields GivesPieceOrError l.initial.piece-iterator (map Ok xs) l.piece-iterator × (string_bytes l.page ≡ flat_map (marked l.lexer.names) xs))
