use Rattle.std.proofs.Common.{◌≡◌, ℕ, ◌+◌, ◌≤◌, take}
use Rattle.bajofeki.specs.Internal.Kept.{AreWithin}
use Rattle.bajofeki.specs.Internal.Blocks.{sizes, after_pieces}
use Rattle.bajofeki.proofs.block.pass_all.Given as goal

abbrev pub invariant-loop-piece : goal.invariant-loop-piece
invariant-loop-piece l = record {
  at : l.place.at ≡ l.fn.place.at + sizes (take l.piece-index l.pieces);
  stack : l.place.stack ≡ after_pieces l.lexer (take l.piece-index l.pieces) l.fn.place.stack;
  within : AreWithin l.reach 0 (take l.piece-index l.pieces);
  least : (n : ℕ) → AreWithin n 0 (take l.piece-index l.pieces) → l.reach ≤ n;
}
