use Rattle.lalrpop_dfa.proofs.Waiting.{IsMostYet}
use Rattle.lalrpop_dfa.proofs.lookahead.most_entered.Given as goal

abbrev pub invariant-loop-number : goal.invariant-loop-number
invariant-loop-number l = IsMostYet l.dfa l.reached l.numbers l.number l.most
