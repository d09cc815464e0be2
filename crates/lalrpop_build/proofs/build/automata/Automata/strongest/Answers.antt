use Rattle.lalrpop_build.proofs.build.automata.Automata.strongest.Goals as goal

pub strongest_of-requires-clause-inside : goal.strongest_of-requires-clause-inside
strongest_of-requires-clause-inside c = rw (← c.self.view_is) at c.requires.inside
