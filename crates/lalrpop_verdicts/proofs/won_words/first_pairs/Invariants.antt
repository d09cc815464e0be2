use Rattle.std.proofs.Common.{ℕ, nat_cmp}
use Rattle.std.specs.BTreeMap.{get}
use Rattle.lalrpop_verdicts.specs.Internal.WonWords.{IsFirst, winner_at}
use Rattle.lalrpop_verdicts.proofs.won_words.first_pairs.Given as goal

-- a tree that wins none of the pairs so far has no number, and each other one has the number of its first pair
abbrev pub invariant-loop-number : goal.invariant-loop-number
invariant-loop-number l = (q : ℕ) → IsFirst (winner_at l.left l.right l.pairs) l.number q (get nat_cmp l.firsts q)
