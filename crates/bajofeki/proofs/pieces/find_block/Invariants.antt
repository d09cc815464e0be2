use Rattle.std.proofs.Common.{◌≡◌, ◌≤◌, take}
use Rattle.bajofeki.specs.Internal.Blocks.{size_in}
use Rattle.bajofeki.proofs.pieces.find_block.Given as goal

abbrev pub invariant-loop-block : goal.invariant-loop-block
invariant-loop-block l = (l.begins ≡ size_in (take l.block-index l.blocks)) × (l.begins ≤ l.at)
