use Rattle.lalrpop_dfa.proofs.Totals.{total}
use Rattle.lalrpop_verdicts.proofs.ShortestLaws.{AreShortening}
use Rattle.lalrpop_verdicts.proofs.classes.shortest.shortest.Given as goal

abbrev pub invariant-loop-lengths : goal.invariant-loop-lengths
invariant-loop-lengths l = AreShortening l.table l.fn.starts.items l.lengths.items

abbrev pub decreases-loop-lengths : goal.decreases-loop-lengths
decreases-loop-lengths l = total l.lengths.items
