use Rattle.std.proofs.Common.{◌≤◌, ◌-◌, length}
use Rattle.lalrpop_dfa.specs.Split.{AreBefore}
use Rattle.lalrpop_build.proofs.closure.place_of.Given as goal

abbrev pub invariant-loop-place : goal.invariant-loop-place
invariant-loop-place l = record {
  within : l.place ≤ length l.items;
  before : AreBefore l.items l.place l.item;
}

abbrev pub decreases-loop-place : goal.decreases-loop-place
decreases-loop-place l = length l.items - l.place
