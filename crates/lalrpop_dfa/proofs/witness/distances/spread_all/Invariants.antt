use Rattle.lalrpop_dfa.proofs.Distances.{AreSpreading}
use Rattle.lalrpop_dfa.proofs.Totals.{total}
use Rattle.lalrpop_dfa.proofs.witness.distances.spread_all.Given as goal

abbrev pub invariant-loop-distances : goal.invariant-loop-distances
invariant-loop-distances l = AreSpreading l.dfa l.fn.first.items l.distances.items

abbrev pub decreases-loop-distances : goal.decreases-loop-distances
decreases-loop-distances l = total l.distances.items
