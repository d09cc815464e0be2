use Rattle.std.proofs.Common.{◌≡◌, ℕ, ◌<◌, ◌↔◌, length}
use Rattle.lalrpop_dfa.specs.Internal.Marks.{Marked, EntersBy}
use Rattle.lalrpop_dfa.proofs.lookahead.unbounded_patterns.Given as goal

abbrev pub invariant-loop-number : goal.invariant-loop-number
invariant-loop-number l = record {
  same_length : length l.found.items ≡ l.count;
  each : (i : ℕ) → i < l.count → Marked l.found.items i ↔ ((p : ℕ) × ((p < l.number) × EntersBy l.dfa l.reached.items l.marks.items i p));
}
