use Rattle.std.proofs.Common.{◌≡◌, ◌≤◌, ◌-◌, length, take}
use Rattle.lalrpop_build.specs.Internal.Subsets.{closed}
use Rattle.lalrpop_build.proofs.ByPattern.{AreApart}
use Rattle.lalrpop_build.proofs.closure.follow_all.Given as goal

abbrev pub invariant-loop-from : goal.invariant-loop-from
invariant-loop-from l = record {
  found : l.found.items ≡ closed l.nfas (take l.from l.given);
  within : l.from ≤ length l.given;
  apart : AreApart l.given l.from;
}

abbrev pub decreases-loop-from : goal.decreases-loop-from
decreases-loop-from l = length l.given - l.from
