use Rattle.lalrpop_nfa.proofs.StateSetLemmas.{listed_within}
use Rattle.lalrpop_nfa.proofs.state_set.StateSet.states.Goals as goal

pub returns-clause-within : goal.returns-clause-within
returns-clause-within c = rw (c.as_slice.ensures.value, ← c.self.view_is) (listed_within c.self.inside.states.items c.self.inside.marks.items c.self.invariant)
