use Rattle.std.proofs.Common.{◌-◌}
use Rattle.lalrpop_dfa.proofs.Depths.{IsRising}
use Rattle.lalrpop_dfa.proofs.witness.depths.rise.Given as goal

abbrev pub invariant-loop-back : goal.invariant-loop-back
invariant-loop-back l = IsRising l.dfa l.initial.depths l.depths (l.count - l.back)
