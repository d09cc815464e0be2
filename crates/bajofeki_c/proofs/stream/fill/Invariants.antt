use Rattle.std.proofs.Common.{◌-◌, ◌≤◌, length}
use Rattle.bajofeki_c.specs.Stream.{AreGiven}
use Rattle.bajofeki_c.proofs.stream.fill.Given as goal

-- the pieces so far are written
abbrev pub invariant-filling : goal.invariant-filling
invariant-filling l = record {
  within : l.count ≤ length l.out;
  given : AreGiven l.initial.chunks l.initial.out l.count l.out l.chunks;
}

abbrev pub decreases-filling : goal.decreases-filling
decreases-filling l = length l.out - l.count
