use Rattle.lalrpop_hir.specs.Runs.{IsScalar, next_scalar}
use Rattle.lalrpop_hir.proofs.Joining.{IsJoining}
use Rattle.lalrpop_hir.proofs.class.characters.join_characters.Given as goal

abbrev pub invariant-loop-range : goal.invariant-loop-range
invariant-loop-range l =
    IsJoining next_scalar IsScalar (record { start = l.initial.start; end = l.initial.end }) l.rest l.range-index l.runs.items (record { start = l.start; end = l.end })
