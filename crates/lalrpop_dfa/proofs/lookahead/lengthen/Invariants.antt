use Rattle.std.proofs.Common.{◌-◌}
use Rattle.lalrpop_dfa.proofs.Waiting.{IsLengthening}
use Rattle.lalrpop_dfa.proofs.lookahead.lengthen.Given as goal

abbrev pub invariant-loop-back : goal.invariant-loop-back
invariant-loop-back l = IsLengthening l.dfa l.ever l.initial.numbers l.numbers (l.count - l.back)
