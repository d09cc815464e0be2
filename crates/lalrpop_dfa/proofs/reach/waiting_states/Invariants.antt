use Rattle.std.proofs.Common.{◌≡◌, ℕ, ◌<◌, ◌↔◌, length}
use Rattle.lalrpop_dfa.specs.Internal.Marks.{Marked, WaitsFor}
use Rattle.lalrpop_dfa.proofs.reach.waiting_states.Given as goal

abbrev pub invariant-loop-number : goal.invariant-loop-number
invariant-loop-number l = record {
  same_length : length l.marks.items ≡ l.number;
  each : (p : ℕ) → p < l.number → Marked l.marks.items p ↔ WaitsFor l.dfa 0 p;
}
