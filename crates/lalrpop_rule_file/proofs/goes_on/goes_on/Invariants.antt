use Rattle.std.proofs.Common.{ℕ, ◌<◌, take, drop}
use Rattle.lalrpop_rule_file.specs.GoesOn.{SeemsToEnd}
use Rattle.lalrpop_rule_file.proofs.goes_on.goes_on.Given as goal

-- nowhere before
abbrev pub invariant-loop-at : goal.invariant-loop-at
invariant-loop-at l = (j : ℕ) → j < l.at → SeemsToEnd l.mark (take j l.text) (drop j l.text) → ⊥
