use Rattle.std.proofs.Common.{◌-◌}
use Rattle.lalrpop_verdicts.proofs.LongestLaws.{IsLowering}
use Rattle.lalrpop_verdicts.proofs.classes.longest.lower_all.Given as goal

abbrev pub invariant-loop-back : goal.invariant-loop-back
invariant-loop-back l = IsLowering l.table l.initial.lengths l.lengths (l.count - l.back)
