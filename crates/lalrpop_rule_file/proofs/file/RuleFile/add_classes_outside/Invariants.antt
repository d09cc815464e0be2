use Rattle.lalrpop_rule_file.specs.Internal.Found.{HasFound}
use Rattle.lalrpop_rule_file.proofs.file.RuleFile.add_classes_outside.Given as goal

abbrev pub invariant-loop-rule : goal.invariant-loop-rule
invariant-loop-rule l = HasFound l.self 5 0 l.initial.found.items → HasFound l.self 5 l.rule l.found.items
