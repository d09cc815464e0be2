use Rattle.lalrpop_verdicts.proofs.ShortestLaws.{IsShorterOf}
use Rattle.lalrpop_verdicts.proofs.classes.shortest.shorter.Given as goal

abbrev pub invariant-loop-target : goal.invariant-loop-target
invariant-loop-target l = IsShorterOf l.lengths l.targets l.own l.least l.target-index
