use Rattle.lalrpop_verdicts.proofs.VerdictLaws.{own_of}
use Rattle.lalrpop_verdicts.proofs.verdict.own_automaton.Goals as goal

pub returns-in-Ok-clause-own : goal.returns-in-Ok-clause-own
returns-in-Ok-clause-own c = own_of c.args.regexs.now c.args.index c.in-Ok.dfa c.requires.within c.in-Ok.ensures.all
