use Rattle.std.proofs.Common.{◌-◌}
use Rattle.lalrpop_verdicts.proofs.ShortestLaws.{IsShortening}
use Rattle.lalrpop_verdicts.proofs.classes.shortest.shorten.Given as goal

abbrev pub invariant-loop-back : goal.invariant-loop-back
invariant-loop-back l = IsShortening l.table l.initial.lengths l.lengths (l.count - l.back)
