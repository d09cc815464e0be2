use Rattle.std.proofs.Common.{◌≡◌, List, flat_map, map, string_bytes}
use Rattle.std.specs.Prelude.{Ok}
use Rattle.std.specs.Iterator.{Yields}
use Rattle.lalrpop_rules.specs.declared.piece.Piece.{Piece}
use Rattle.lalrpop_rules.specs.ModeCut.{GivesPieceOrError}
use Rattle.bajofeki_c.specs.Page.{piece_in}
use Rattle.bajofeki_c.proofs.page.page_of.Given as goal

-- the pieces so far, and their page
abbrev pub invariant-loop-piece : goal.invariant-loop-piece
invariant-loop-piece l = record {
  so_far : (pieces : List Piece) × (Yields GivesPieceOrError l.initial.piece-iterator (map Ok pieces) l.piece-iterator
      × (string_bytes l.page ≡ flat_map (piece_in l.markup l.rules.names) pieces));
  painter : l.painter ≡ l.rules.names;
}
