use Rattle.lalrpop_verdicts.specs.Internal.Apart.{AreApart}
use Rattle.lalrpop_verdicts.specs.Internal.Pairs.{NoneBefore}
use Rattle.lalrpop_verdicts.proofs.difference.least_difference.Given as goal

abbrev pub invariant-loop-number : goal.invariant-loop-number
invariant-loop-number l = NoneBefore (AreApart l.left l.left_labels l.right l.right_labels) l.pair-items l.number
