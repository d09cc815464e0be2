use Rattle.std.proofs.Common.{◌≡◌, ◌+◌, ◌-◌, ◌≤◌, take, drop, length}
use Rattle.bajofeki.specs.Internal.Blocks.{pieces_in, sizes, after_pieces, AreMarked}
use Rattle.bajofeki.specs.Internal.BlockPlaces.{AreCounted}
use Rattle.bajofeki.proofs.block.blocks_of.Given as goal

-- the blocks so far have the pieces so far
abbrev pub invariant-loop-from : goal.invariant-loop-from
invariant-loop-from l = record {
  within : l.from ≤ length l.pieces;
  at : l.place.at ≡ l.fn.place.at + sizes (take l.from l.pieces);
  stack : l.place.stack ≡ after_pieces l.lexer (take l.from l.pieces) l.fn.place.stack;
  marked : AreMarked l.lexer l.fn.place.stack l.blocks.items;
  pieces : pieces_in l.blocks.items ≡ take l.from l.pieces;
  counted : AreCounted (drop l.fn.place.at l.text) l.blocks.items;
}

abbrev pub decreases-loop-from : goal.decreases-loop-from
decreases-loop-from l = length l.pieces - l.from
