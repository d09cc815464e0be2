use Rattle.lalrpop_build.proofs.build.Expansion.kind.Goals as goal

pub kind_of-requires-clause-inside : goal.kind_of-requires-clause-inside
kind_of-requires-clause-inside c = rw (← c.self.view_is) at c.requires.inside

pub returns-in-Ok-clause-ok : goal.returns-in-Ok-clause-ok
returns-in-Ok-clause-ok c = rw (← c.self.view_is) c.in-Ok.ensures.ok
