use Rattle.std.proofs.Common.{◌≡◌, ◌+◌, ◌-◌, ◌≤◌, length}
use Rattle.lalrpop_nfa.proofs.StateSetLemmas.{IsClosing}
use Rattle.lalrpop_nfa.proofs.state_set.StateSet.close.Given as goal

abbrev pub invariant-loop-place : goal.invariant-loop-place
invariant-loop-place l = record {
  counted : l.steps ≡ l.initial.steps + l.place;
  within : l.place ≤ length l.nfa.kinds;
  closing : IsClosing l.nfa.edges l.initial.self l.self l.place;
}

abbrev pub decreases-loop-place : goal.decreases-loop-place
decreases-loop-place l = length l.nfa.kinds - l.place
