use Rattle.lalrpop_dfa.proofs.Totals.{total}
use Rattle.lalrpop_verdicts.proofs.LongestLaws.{AreLowering}
use Rattle.lalrpop_verdicts.proofs.classes.longest.longest.Given as goal

abbrev pub invariant-loop-lengths : goal.invariant-loop-lengths
invariant-loop-lengths l = AreLowering l.table l.fn.stops.items l.lengths.items

abbrev pub decreases-loop-lengths : goal.decreases-loop-lengths
decreases-loop-lengths l = total l.lengths.items
