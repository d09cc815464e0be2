use Rattle.std.proofs.Common.{ℕ, ◌<◌, ◌≤◌, get_or}
use Rattle.lalrpop_verdicts.specs.Internal.Longest.{IsMost}
use Rattle.lalrpop_verdicts.proofs.classes.longest.greatest.Given as goal

abbrev pub invariant-loop-place : goal.invariant-loop-place
invariant-loop-place l = record {
  all : (k : ℕ) → 0 < k → k < l.place → get_or l.lengths (get_or l.targets k 0) 0 ≤ l.greatest;
  least : (y : ℕ) → IsMost l.lengths l.targets y → l.greatest ≤ y;
}
