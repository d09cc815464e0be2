use Rattle.lalrpop_nfa.proofs.edge.EdgeIteratorIterator.next.Goals as goal

pub invariant_of-self : goal.invariant_of-self
invariant_of-self g c = c.index_after-self-inside.ensures.at
