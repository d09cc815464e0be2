use Rattle.std.proofs.Common.{◌≡◌, ℕ, ◌<◌, get_or}
use Rattle.lalrpop_rule_file.proofs.left_modes.is_one_of.Given as goal

abbrev pub invariant-loop-own : goal.invariant-loop-own
invariant-loop-own l = (k : ℕ) → k < l.own-index → get_or l.modes k 0 ≡ l.mode → ⊥
