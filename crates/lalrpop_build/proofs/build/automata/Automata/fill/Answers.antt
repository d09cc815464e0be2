use Rattle.lalrpop_build.proofs.build.automata.Automata.fill.Goals as goal

pub fill-requires-clause-inside : goal.fill-requires-clause-inside
fill-requires-clause-inside c = rw (← c.self.view_is) at c.requires.inside

pub returns-clause-automata : goal.returns-clause-automata
returns-clause-automata c = rw (← c.self.view_is) c.self.invariant.0

pub returns-clause-filled : goal.returns-clause-filled
returns-clause-filled c = rw (← c.self.view_is) c.fill.ensures.filled

pub returns-clause-scratch : goal.returns-clause-scratch
returns-clause-scratch c = rw (← c.self.view_is) c.fill.ensures.scratch
