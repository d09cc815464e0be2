use Rattle.std.proofs.Common.{◌≡◌, ◌<◌, ℕ}
use Rattle.lalrpop_dfa.specs.Dfa.{step}
use Rattle.lalrpop_emit.proofs.classes.are_alike.Given as goal

-- the states so far lead both alike
abbrev pub invariant-loop-number : goal.invariant-loop-number
invariant-loop-number l = (p : ℕ) → p < l.number → step l.dfa p l.one ≡ step l.dfa p l.other
