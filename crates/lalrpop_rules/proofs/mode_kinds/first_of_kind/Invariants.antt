use Rattle.std.proofs.Common.{◌≡◌, ℕ, ◌<◌}
use Rattle.std.specs.Prelude.{Some, slice_get}
use Rattle.lalrpop_rules.specs.ModeSet.{AreOneModeKind}
use Rattle.bajofeki_rules.specs.declared.mode_rule.ModeRule.{ModeRule}
use Rattle.lalrpop_rules.proofs.mode_kinds.first_of_kind.Given as goal

abbrev pub invariant-loop-other : goal.invariant-loop-other
invariant-loop-other l =
    (rule : ModeRule) → slice_get l.rules l.index ≡ Some rule → (j : ℕ) (y : ModeRule) → j < l.other → slice_get l.rules j ≡ Some y → ¬ AreOneModeKind y rule
