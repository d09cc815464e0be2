use Rattle.lalrpop_verdicts.specs.Internal.Beside.{EndsTail}
use Rattle.lalrpop_verdicts.specs.Internal.Pairs.{NoneBefore}
use Rattle.lalrpop_verdicts.proofs.side_by_side.least_tail.Given as goal

abbrev pub invariant-loop-number : goal.invariant-loop-number
invariant-loop-number l = NoneBefore (EndsTail l.cut l.ahead l.dfa l.second) l.pair-items l.number
