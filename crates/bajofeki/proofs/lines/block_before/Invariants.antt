use Rattle.std.proofs.Common.{◌≡◌, ◌≤◌, take, drop}
use Rattle.bajofeki.specs.Internal.BlockPlaces.{AreCounted, IsMark}
use Rattle.bajofeki.specs.Internal.Blocks.{size_in}
use Rattle.bajofeki.proofs.lines.block_before.Given as goal

-- the mark is the beginning of the next block
abbrev pub invariant-loop-block : goal.invariant-loop-block
invariant-loop-block l = record {
  mark : IsMark l.text l.mark;
  order : l.mark.at ≤ l.at;
  begins : l.mark.at ≡ size_in (take l.block-index l.blocks);
  rest : AreCounted (drop l.mark.at l.text) (drop l.block-index l.blocks);
}
