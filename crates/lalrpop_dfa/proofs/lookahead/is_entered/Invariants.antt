use Rattle.std.proofs.Common.{ℕ, ◌<◌}
use Rattle.lalrpop_dfa.specs.Internal.Marks.{EntersBy}
use Rattle.lalrpop_dfa.proofs.lookahead.is_entered.Given as goal

abbrev pub invariant-loop-number : goal.invariant-loop-number
invariant-loop-number l = (i p : ℕ) → p < l.number → EntersBy l.dfa l.reached l.marks i p → ⊥
