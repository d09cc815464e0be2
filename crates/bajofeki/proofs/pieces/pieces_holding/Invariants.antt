use Rattle.std.proofs.Common.{◌≡◌, [], take}
use Rattle.bajofeki.specs.Internal.Blocks.{pieces_in, size_in}
use Rattle.bajofeki.specs.Internal.KeptPieces.{AddsHolding, items_from}
use Rattle.bajofeki.proofs.pieces.pieces_holding.Given as goal

-- those of the blocks so far are added
abbrev pub invariant-loop-block : goal.invariant-loop-block
invariant-loop-block l = record {
  begins : l.begins ≡ size_in (take l.block-index l.blocks);
  adds : AddsHolding l.range.start l.range.end [] l.items.items (items_from l.lexer.skips l.text 0 (pieces_in (take l.block-index l.blocks)));
}
