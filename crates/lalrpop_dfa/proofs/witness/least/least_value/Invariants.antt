use Rattle.lalrpop_dfa.specs.Internal.Ranks.{IsWanted}
use Rattle.lalrpop_dfa.proofs.LeastValues.{IsPassed}
use Rattle.lalrpop_dfa.proofs.witness.least.least_value.Given as goal

abbrev pub invariant-loop-test : goal.invariant-loop-test
invariant-loop-test l = IsPassed l.dfa (IsWanted l.ranks l.least l.most) l.fn.state l.test-items l.test-index l.next
