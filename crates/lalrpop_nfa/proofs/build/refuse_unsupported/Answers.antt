use Rattle.std.proofs.Common.{rules}
use Rattle.lalrpop_nfa.proofs.build.refuse_unsupported.Goals as goal

pub returns-then-greedy : goal.returns-then-greedy
returns-then-greedy c = search rules

pub returns-else-greedy : goal.returns-else-greedy
returns-else-greedy c = search rules

pub returns-in-Some : goal.returns-in-Some
returns-in-Some c = search rules
