use Rattle.std.proofs.Common.{◌≡◌, ℕ, ◌<◌}
use Rattle.std.specs.Prelude.{slice_get, slice_index, Some}
use Rattle.lalrpop_hir.specs.Range.{Range}
use Rattle.lalrpop_verdicts.proofs.smallest.stays_in_class.Given as goal

abbrev pub invariant-loop-target : goal.invariant-loop-target
invariant-loop-target l = (k : ℕ) (t : Range × ℕ) → k < l.target-index → slice_get l.target-items k ≡ Some t → slice_index l.classes t.1 ≡ l.class
