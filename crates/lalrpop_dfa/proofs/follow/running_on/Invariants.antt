use Rattle.std.proofs.Common.{◌≡◌, ℕ, ◌<◌, ◌↔◌, length}
use Rattle.lalrpop_dfa.specs.Internal.Fitting.{RunsOnFrom}
use Rattle.lalrpop_dfa.specs.Internal.Marks.{Marked}
use Rattle.lalrpop_dfa.proofs.follow.running_on.Given as goal

abbrev pub invariant-loop-number : goal.invariant-loop-number
invariant-loop-number l = record {
  same_length : length l.found.items ≡ l.count;
  each : (i : ℕ) → i < l.count
      → Marked l.found.items i ↔ ((p : ℕ) × ((p < l.number) × RunsOnFrom l.dfa l.reached.items l.live.items l.toward.items i p));
}
