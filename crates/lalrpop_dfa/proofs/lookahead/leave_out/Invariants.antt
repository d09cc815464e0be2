use Rattle.std.proofs.Common.{◌-◌}
use Rattle.lalrpop_dfa.proofs.LeftOut.{IsLeavingOut}
use Rattle.lalrpop_dfa.proofs.lookahead.leave_out.Given as goal

abbrev pub invariant-loop-back : goal.invariant-loop-back
invariant-loop-back l = IsLeavingOut l.dfa l.initial.marks l.marks (l.count - l.back)
