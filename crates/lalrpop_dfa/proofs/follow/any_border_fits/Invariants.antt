use Rattle.std.proofs.Common.{◌≡◌, ℕ, ◌<◌}
use Rattle.std.specs.Prelude.{slice_get, Some}
use Rattle.lalrpop_hir.specs.Range.{Range}
use Rattle.lalrpop_dfa.specs.Internal.Fitting.{FitsAtBorder}
use Rattle.lalrpop_dfa.proofs.follow.any_border_fits.Given as goal

abbrev pub invariant-loop-test : goal.invariant-loop-test
invariant-loop-test l = (k : ℕ) (t : Range × ℕ) → k < l.test-index → slice_get l.tests k ≡ Some t → (t.0.end < 4294967296) × ¬ FitsAtBorder l.dfa l.live l.toward l.fn.state t.0
