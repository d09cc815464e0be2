use Rattle.lalrpop_hir.proofs.Gaps.{IsLeavingOut}
use Rattle.lalrpop_hir.proofs.class.operations.character_gaps.Given as goal

abbrev pub invariant-loop-run : goal.invariant-loop-run
invariant-loop-run l = IsLeavingOut l.runs l.run-index l.gaps.items l.low
