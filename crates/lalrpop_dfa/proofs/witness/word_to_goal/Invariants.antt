use Rattle.std.proofs.Common.{◌≡◌, ℕ, ◌+◌, ◌<◌, ◌≤◌, length}
use Rattle.lalrpop_dfa.specs.Dfa.{after}
use Rattle.lalrpop_dfa.specs.Internal.Ranks.{AreNearest}
use Rattle.lalrpop_dfa.proofs.Walks.{IsLeading}
use Rattle.lalrpop_dfa.proofs.witness.word_to_goal.Given as goal

abbrev pub invariant-loop-left : goal.invariant-loop-left
invariant-loop-left l = record {
  within : l.state < length l.dfa;
  low : l.left ≤ l.nearest + 1;
  state : l.state ≡ after l.dfa l.word.items;
  leading : (n : ℕ) → AreNearest l.dfa n l.nearest l.states → IsLeading l.dfa n (l.nearest + 1) l.word.items l.state l.left;
}

abbrev pub decreases-loop-left : goal.decreases-loop-left
decreases-loop-left l = l.left
