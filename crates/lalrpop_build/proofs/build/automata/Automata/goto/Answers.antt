use Rattle.lalrpop_build.proofs.build.automata.Automata.goto.Goals as goal

pub goto-requires-clause-inside : goal.goto-requires-clause-inside
goto-requires-clause-inside c = rw (← c.self.view_is) at c.requires.inside

pub goto-requires-clause-taken : goal.goto-requires-clause-taken
goto-requires-clause-taken c = rw (← c.self.view_is) at c.requires.taken

pub returns : goal.returns
returns c = rw (← c.self.view_is) c.goto.ensures
