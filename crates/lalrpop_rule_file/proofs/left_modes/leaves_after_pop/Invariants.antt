use Rattle.std.proofs.Common.{◌≡◌, ℕ, ◌+◌, ◌<◌, drop}
use Rattle.std.specs.Prelude.{Some, slice_get}
use Rattle.bajofeki_rules.specs.declared.action.Action.TheVariants.{Pop}
use Rattle.lalrpop_rule_file.specs.LeftModes.{OneLeaves}
use Rattle.lalrpop_rule_file.proofs.left_modes.leaves_after_pop.Given as goal

abbrev pub invariant-loop-at : goal.invariant-loop-at
invariant-loop-at l = (j : ℕ) → j < l.at → slice_get l.actions j ≡ Some Pop → OneLeaves (drop (j + 1) l.actions) l.mode → ⊥
