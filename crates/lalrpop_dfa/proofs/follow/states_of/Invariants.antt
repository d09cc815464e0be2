use Rattle.std.proofs.Common.{◌≡◌, ℕ, ◌<◌, ◌↔◌, length}
use Rattle.lalrpop_dfa.specs.Internal.Marks.{IsAcceptingAs, Marked}
use Rattle.lalrpop_dfa.proofs.follow.states_of.Given as goal

abbrev pub invariant-loop-state : goal.invariant-loop-state
invariant-loop-state l = record {
  same_length : length l.marks.items ≡ l.state-index;
  each : (p : ℕ) → p < l.state-index → Marked l.marks.items p ↔ IsAcceptingAs l.dfa l.pattern p;
}
