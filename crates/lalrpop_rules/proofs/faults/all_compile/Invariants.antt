use Rattle.lalrpop_rules.specs.Internal.Faults.{NoFaultBefore}
use Rattle.lalrpop_rules.proofs.faults.all_compile.Given as goal

abbrev pub invariant-loop-index : goal.invariant-loop-index
invariant-loop-index l = NoFaultBefore l.trees l.index
