use Rattle.std.proofs.Common.{◌≡◌, ◌-◌, ◌≤◌, length}
use Rattle.std.specs.Prelude.{min, max}
use Rattle.lalrpop_emit.specs.BytePositions.{byte_position_of}
use Rattle.lalrpop_emit.proofs.driver.move_on.Given as goal

-- the place is right, and it is no further on than it has to go
abbrev pub invariant-loop-position : goal.invariant-loop-position
invariant-loop-position l = record {
  right : l.position ≡ byte_position_of l.text l.position.at;
  from : l.initial.position.at ≤ l.position.at;
  within : l.position.at ≤ max l.initial.position.at (min l.to (length l.text));
}

abbrev pub decreases-loop-position : goal.decreases-loop-position
decreases-loop-position l = length l.text - l.position.at
