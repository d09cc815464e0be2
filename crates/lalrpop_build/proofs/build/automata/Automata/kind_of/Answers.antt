use Rattle.lalrpop_build.proofs.build.automata.Automata.kind_of.Goals as goal

pub kind_of-requires-clause-inside : goal.kind_of-requires-clause-inside
kind_of-requires-clause-inside c = rw (← c.self.view_is) at c.requires.inside
