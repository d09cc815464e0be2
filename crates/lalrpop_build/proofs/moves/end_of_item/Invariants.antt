use Rattle.std.proofs.Common.{ℕ, ◌≡◌, ◌<◌, ◌≤◌, ◌-◌, length, Some}
use Rattle.std.specs.Prelude.{slice_get}
use Rattle.lalrpop_build.specs.declared.transitions.Transition.{Transition}
use Rattle.lalrpop_build.proofs.moves.end_of_item.Given as goal

abbrev pub invariant-loop-end : goal.invariant-loop-end
invariant-loop-end l = record {
  behind : l.from ≤ l.end;
  within : l.end ≤ length l.transitions;
  same : (k : ℕ) (e : Transition) → l.from ≤ k → k < l.end → slice_get l.transitions k ≡ Some e → e.item ≡ l.item;
}

abbrev pub decreases-loop-end : goal.decreases-loop-end
decreases-loop-end l = length l.transitions - l.end
