use Rattle.lalrpop_rule_file.specs.Internal.Found.{HasFound}
use Rattle.lalrpop_rule_file.proofs.file.RuleFile.add_ends_passed.Given as goal

abbrev pub invariant-loop-rule : goal.invariant-loop-rule
invariant-loop-rule l = HasFound l.self 6 0 l.initial.found.items → HasFound l.self 6 l.rule l.found.items
