use Rattle.std.proofs.Common.{◌≡◌, ◌≤◌, ◌-◌, length}
use Rattle.bajofeki.specs.Internal.Blocks.{IsSpot}
use Rattle.bajofeki.proofs.meet.next_piece.Given as goal

-- blocks are passed that have no pieces left
abbrev pub invariant-loop-spot : goal.invariant-loop-spot
invariant-loop-spot l = record {
  spot : IsSpot l.blocks l.spot.block l.spot.piece l.spot.count;
  block : l.fn.spot.block ≤ l.spot.block;
  count : l.spot.count ≡ l.fn.spot.count;
}

abbrev pub decreases-loop-spot : goal.decreases-loop-spot
decreases-loop-spot l = length l.blocks - l.spot.block
