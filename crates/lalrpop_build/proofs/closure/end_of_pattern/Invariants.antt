use Rattle.std.proofs.Common.{ℕ, ◌≡◌, ◌<◌, ◌≤◌, ◌-◌, length}
use Rattle.lalrpop_build.specs.Internal.Worklist.{pattern_at}
use Rattle.lalrpop_build.proofs.closure.end_of_pattern.Given as goal

abbrev pub invariant-loop-end : goal.invariant-loop-end
invariant-loop-end l = record {
  behind : l.from < l.end;
  within : l.end ≤ length l.items;
  same : (k : ℕ) → l.from ≤ k → k < l.end → pattern_at l.items k ≡ pattern_at l.items l.from;
}

abbrev pub decreases-loop-end : goal.decreases-loop-end
decreases-loop-end l = length l.items - l.end
