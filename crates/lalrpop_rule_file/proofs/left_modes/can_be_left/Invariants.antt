use Rattle.lalrpop_rule_file.specs.LeftModes.{LeadsOut}
use Rattle.lalrpop_rule_file.proofs.Elements.{NoneBefore}
use Rattle.lalrpop_rule_file.proofs.left_modes.can_be_left.Given as goal

abbrev pub invariant-loop-rule : goal.invariant-loop-rule
invariant-loop-rule l = NoneBefore (λ r. LeadsOut r l.mode) l.rules l.rule-index
