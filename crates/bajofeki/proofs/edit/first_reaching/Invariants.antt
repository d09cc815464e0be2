use Rattle.std.proofs.Common.{◌-◌, length}
use Rattle.bajofeki.specs.Internal.Starting.{IsFirst}
use Rattle.bajofeki.proofs.edit.first_reaching.Given as goal

abbrev pub invariant-loop-spot : goal.invariant-loop-spot
invariant-loop-spot l = IsFirst l.blocks l.from l.spot l.at

abbrev pub decreases-loop-spot : goal.decreases-loop-spot
decreases-loop-spot l = length l.blocks - l.spot.block
