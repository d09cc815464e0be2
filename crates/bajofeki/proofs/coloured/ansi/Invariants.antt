use Rattle.std.proofs.Common.{◌≡◌, List, flat_map, map, string_bytes}
use Rattle.std.specs.Prelude.{Ok}
use Rattle.std.specs.Iterator.{Yields}
use Rattle.lalrpop_rules.specs.ModeCut.{GivesPieceOrError}
use Rattle.lalrpop_rules.specs.declared.piece.Piece.{Piece}
use Rattle.bajofeki.specs.Terminal.{painted}
use Rattle.bajofeki.proofs.coloured.ansi.Given as goal

-- the pieces so far
abbrev pub invariant-loop-piece : goal.invariant-loop-piece
invariant-loop-piece l = record {
  so_far : (xs : List Piece) × (Yields GivesPieceOrError l.initial.piece-iterator (map Ok xs) l.piece-iterator
      × (string_bytes l.page ≡ flat_map (painted l.lexer.names) xs));
  painter : l.painter ≡ l.lexer.names;
}
