use Rattle.std.proofs.Common.{◌≡◌, ◌+◌, ◌≤◌, ◌-◌, length, take}
use Rattle.bajofeki.specs.Internal.Kept.{AreWithin}
use Rattle.bajofeki.specs.Internal.Blocks.{sizes, after_pieces}
use Rattle.bajofeki.proofs.edit.keep_front.Given as goal

-- the pieces so far depend on nothing from there on
abbrev pub invariant-loop-count : goal.invariant-loop-count
invariant-loop-count l = record {
  count : l.count ≤ length l.pieces;
  at : l.place.at ≡ l.fn.place.at + sizes (take l.count l.pieces);
  stack : l.place.stack ≡ after_pieces l.lexer (take l.count l.pieces) l.fn.place.stack;
  within : AreWithin l.from l.fn.place.at (take l.count l.pieces);
}

abbrev pub decreases-loop-count : goal.decreases-loop-count
decreases-loop-count l = length l.pieces - l.count
