use Rattle.std.proofs.Common.{◌≡◌, ◌<◌, ℕ, Some, None}
use Rattle.std.specs.Prelude.{slice_get}
use Rattle.lalrpop_hir.specs.Fault.{fault}
use Rattle.lalrpop_hir.specs.Tree.{Tree}
use Rattle.lalrpop_verdicts.proofs.verdict.compile_all.Given as goal

-- the patterns before this one have no fault
abbrev pub invariant-loop-place : goal.invariant-loop-place
invariant-loop-place l = (j : ℕ) (t : Tree) → j < l.place → slice_get l.regexs j ≡ Some t → fault t ≡ None
