use Rattle.std.proofs.Common.{ℕ, ◌+◌, ◌<◌, ◌≤◌, [], ◌∷◌, ◌++◌, take}
use Rattle.lalrpop_re.specs.Internal.Steps.{EndsWith}
use Rattle.lalrpop_re.proofs.search.next_state.Given as goal

abbrev pub invariant-loop-read : goal.invariant-loop-read
invariant-loop-read l = record {
  within : l.read ≤ l.state + 1;
  none_above : (i : ℕ) → l.read < i → i ≤ l.state + 1 → ¬ EndsWith (take l.state l.end ++ l.c ∷ []) (take i l.end);
}

abbrev pub decreases-loop-read : goal.decreases-loop-read
decreases-loop-read l = l.read
