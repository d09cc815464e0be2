use Rattle.std.proofs.Common.{◌≡◌, ◌+◌, take}
use Rattle.bajofeki.specs.Internal.Blocks.{sizes}
use Rattle.bajofeki.specs.Internal.KeptPieces.{AddsHolding, items_from}
use Rattle.bajofeki.proofs.pieces.push_all_holding.Given as goal

-- those of the pieces so far are added
abbrev pub invariant-loop-piece : goal.invariant-loop-piece
invariant-loop-piece l = record {
  begins : l.begins ≡ l.at + sizes (take l.piece-index l.block.pieces.items);
  adds : AddsHolding l.range.start l.range.end l.fn.items.items l.items.items (items_from l.lexer.skips l.text l.at (take l.piece-index l.block.pieces.items));
}
