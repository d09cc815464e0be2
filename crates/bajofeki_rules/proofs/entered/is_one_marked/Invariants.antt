use Rattle.std.proofs.Common.{ℕ, ◌<◌, get_or}
use Rattle.bajofeki_rules.specs.Internal.Marks.{Marked}
use Rattle.bajofeki_rules.proofs.entered.is_one_marked.Given as goal

abbrev pub invariant-loop-mode : goal.invariant-loop-mode
invariant-loop-mode l = (k : ℕ) → k < l.mode-index → Marked l.marks (get_or l.modes k 0) → ⊥
