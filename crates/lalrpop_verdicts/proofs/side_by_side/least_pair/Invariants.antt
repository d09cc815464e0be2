use Rattle.lalrpop_verdicts.specs.Internal.Beside.{EndsHead}
use Rattle.lalrpop_verdicts.specs.Internal.Pairs.{NoneBefore}
use Rattle.lalrpop_verdicts.proofs.side_by_side.least_pair.Given as goal

abbrev pub invariant-loop-number : goal.invariant-loop-number
invariant-loop-number l = NoneBefore (EndsHead l.cut l.dfa l.first l.second) l.heads l.number
