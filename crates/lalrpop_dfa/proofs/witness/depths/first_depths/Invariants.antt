use Rattle.std.proofs.Common.{◌≡◌, ℕ, ◌<◌, length, get_or}
use Rattle.lalrpop_dfa.proofs.Depths.{IsFirstDepth}
use Rattle.lalrpop_dfa.proofs.witness.depths.first_depths.Given as goal

abbrev pub invariant-loop-is_waiting : goal.invariant-loop-is_waiting
invariant-loop-is_waiting l = record {
  same_length : length l.depths.items ≡ l.is_waiting-index;
  each : (p : ℕ) → p < l.is_waiting-index → IsFirstDepth l.dfa l.most p (get_or l.depths.items p 0);
}
