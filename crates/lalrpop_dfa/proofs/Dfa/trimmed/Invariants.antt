use Rattle.lalrpop_dfa.proofs.Trimming.{IsTrimmedTo}
use Rattle.lalrpop_dfa.proofs.Dfa.trimmed.Given as goal

abbrev pub invariant-loop-number : goal.invariant-loop-number
invariant-loop-number l = IsTrimmedTo l.initial.rows l.rows l.live.items l.number
