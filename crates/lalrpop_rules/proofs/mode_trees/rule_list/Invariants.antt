use Rattle.std.proofs.Common.{◌≡◌, take}
use Rattle.lalrpop_rules.specs.ModeSet.{rules_of}
use Rattle.lalrpop_rules.proofs.mode_trees.rule_list.Given as goal

abbrev pub invariant-loop-rule : goal.invariant-loop-rule
invariant-loop-rule l = l.all.items ≡ rules_of (take l.rule-index l.rules)
