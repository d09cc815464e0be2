use Rattle.std.proofs.Common.{ℕ, List, length}
use Rattle.lalrpop_dfa.specs.Dfa.{Row}
use Rattle.lalrpop_dense.specs.Leading.{AreAhead}
use Rattle.lalrpop_dense.proofs.ahead.forget_ends.Given as goal

abbrev pub invariant-forgetting : goal.invariant-forgetting
invariant-forgetting l = (d : List Row) (text : List ℕ) → AreAhead d text l.from l.fn.ends → AreAhead d text l.last l.ends

-- those that are ahead
abbrev pub decreases-forgetting : goal.decreases-forgetting
decreases-forgetting l = length l.ends
