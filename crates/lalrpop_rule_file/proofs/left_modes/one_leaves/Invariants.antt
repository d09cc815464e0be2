use Rattle.lalrpop_rule_file.specs.LeftModes.{Leaves}
use Rattle.lalrpop_rule_file.proofs.Elements.{NoneBefore}
use Rattle.lalrpop_rule_file.proofs.left_modes.one_leaves.Given as goal

abbrev pub invariant-loop-action : goal.invariant-loop-action
invariant-loop-action l = NoneBefore (λ a. Leaves a l.mode) l.actions l.action-index
