use Rattle.std.proofs.Common.{◌≡◌, ℕ, ◌<◌}
use Rattle.std.specs.Prelude.{slice_get, Some}
use Rattle.lalrpop_hir.specs.Range.{Range}
use Rattle.lalrpop_dfa.specs.Internal.Marks.{Marked}
use Rattle.lalrpop_dfa.proofs.reach.leads_into.Given as goal

abbrev pub invariant-loop-target : goal.invariant-loop-target
invariant-loop-target l = (k : ℕ) (t : Range × ℕ) → k < l.target-index → slice_get l.target-items k ≡ Some t → Marked l.marks t.1 → ⊥
