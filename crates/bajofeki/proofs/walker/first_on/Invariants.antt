use Rattle.std.proofs.Common.{ℕ, ◌<◌}
use Rattle.lalrpop_dfa.specs.Dfa.{IsReject, step}
use Rattle.lalrpop_dfa.specs.Stored.{EndBefore}
use Rattle.bajofeki.proofs.walker.first_on.Given as goal

abbrev pub invariant-loop-test : goal.invariant-loop-test
invariant-loop-test l = record {
  passed : EndBefore l.test-items l.test-index l.next;
  rejects : (c : ℕ) → c < l.next → IsReject l.dfa (step l.dfa l.fn.state c);
}
