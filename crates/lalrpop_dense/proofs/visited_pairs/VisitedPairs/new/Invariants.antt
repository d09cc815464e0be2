use Rattle.lalrpop_dense.proofs.Marks.{AreLaid}
use Rattle.lalrpop_dense.proofs.visited_pairs.VisitedPairs.new.Given as goal

abbrev pub invariant-loop-state : goal.invariant-loop-state
invariant-loop-state l = AreLaid l.dfa l.state-index l.firsts.items l.places l.end
