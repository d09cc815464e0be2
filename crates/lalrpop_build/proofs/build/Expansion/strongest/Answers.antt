use Rattle.lalrpop_build.proofs.build.Expansion.strongest.Goals as goal

pub strongest-requires-clause-inside : goal.strongest-requires-clause-inside
strongest-requires-clause-inside c = rw (← c.self.view_is) at c.requires.inside
