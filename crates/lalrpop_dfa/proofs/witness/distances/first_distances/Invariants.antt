use Rattle.std.proofs.Common.{◌≡◌, ℕ, ◌<◌, length, get_or}
use Rattle.lalrpop_dfa.proofs.Distances.{FirstDistance}
use Rattle.lalrpop_dfa.proofs.witness.distances.first_distances.Given as goal

abbrev pub invariant-loop-number : goal.invariant-loop-number
invariant-loop-number l = record {
  same_length : length l.distances.items ≡ l.number;
  each : (p : ℕ) → p < l.number → FirstDistance l.dfa l.count p (get_or l.distances.items p 0);
}
