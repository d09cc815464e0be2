use Rattle.lalrpop_hir.specs.Runs.{IsByte, next_byte}
use Rattle.lalrpop_hir.proofs.Joining.{IsJoining}
use Rattle.lalrpop_hir.proofs.class.bytes.join_bytes.Given as goal

abbrev pub invariant-loop-range : goal.invariant-loop-range
invariant-loop-range l =
    IsJoining next_byte IsByte (record { start = l.initial.start; end = l.initial.end }) l.rest l.range-index l.runs.items (record { start = l.start; end = l.end })
