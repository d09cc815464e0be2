use Rattle.lalrpop_dense.proofs.dense.DenseDfa.longest_counted.Goals as goal

pub returns-in-Narrow-clause-looked : goal.returns-in-Narrow-clause-looked
returns-in-Narrow-clause-looked c = rw (← c.self.view_is) c.longest_by.ensures.looked

pub returns-in-Wide-clause-looked : goal.returns-in-Wide-clause-looked
returns-in-Wide-clause-looked c = rw (← c.self.view_is) c.longest_by-in-Wide.ensures.looked

pub returns-in-None-clause-looked : goal.returns-in-None-clause-looked
returns-in-None-clause-looked c = rw (← c.self.view_is) c.interpret_counted.ensures.looked
