use Rattle.lalrpop_build.proofs.build.automata.Automata.cell.Goals as goal

pub returns-clause-automata : goal.returns-clause-automata
returns-clause-automata c = rw (← c.self.view_is) c.self.invariant.0
