use Rattle.std.proofs.Common.{ℕ, ◌<◌}
use Rattle.lalrpop_dfa.proofs.SetOrder.{SameReject}
use Rattle.lalrpop_dfa.proofs.items.ItemSet.cmp_rejects.Given as goal

abbrev pub invariant-loop-pattern : goal.invariant-loop-pattern
invariant-loop-pattern l = (j : ℕ) → j < l.pattern → SameReject l.self l.other j
