use Rattle.std.proofs.Common.{◌-◌}
use Rattle.lalrpop_dfa.proofs.Distances.{IsSpreading}
use Rattle.lalrpop_dfa.proofs.witness.distances.spread.Given as goal

abbrev pub invariant-loop-back : goal.invariant-loop-back
invariant-loop-back l = IsSpreading l.dfa l.initial.distances l.distances (l.count - l.back)
