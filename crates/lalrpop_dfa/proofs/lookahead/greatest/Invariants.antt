use Rattle.lalrpop_dfa.proofs.Waiting.{IsGreatestYet}
use Rattle.lalrpop_dfa.proofs.lookahead.greatest.Given as goal

abbrev pub invariant-loop-target : goal.invariant-loop-target
invariant-loop-target l = IsGreatestYet l.numbers l.other l.target-items l.target-index l.greatest
