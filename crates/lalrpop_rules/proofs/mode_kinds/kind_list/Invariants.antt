use Rattle.std.proofs.Common.{◌≡◌, ℕ, length}
use Rattle.std.specs.Prelude.{Some, slice_get}
use Rattle.lalrpop_rules.specs.Kinds.{IsFirstSame}
use Rattle.lalrpop_rules.specs.ModeSet.{AreOneModeKind}
use Rattle.bajofeki_rules.specs.declared.mode_rule.ModeRule.{ModeRule}
use Rattle.lalrpop_rules.proofs.mode_kinds.kind_list.Given as goal

abbrev pub invariant-loop-index : goal.invariant-loop-index
invariant-loop-index l =
    (length l.all.items ≡ l.index)
    × ((i k : ℕ) (x : ModeRule) → slice_get l.rules i ≡ Some x → slice_get l.all.items i ≡ Some k → IsFirstSame AreOneModeKind l.rules x k)
