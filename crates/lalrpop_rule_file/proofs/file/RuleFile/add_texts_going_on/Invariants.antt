use Rattle.lalrpop_rule_file.specs.Internal.Found.{HasFound}
use Rattle.lalrpop_rule_file.proofs.file.RuleFile.add_texts_going_on.Given as goal

abbrev pub invariant-loop-rule : goal.invariant-loop-rule
invariant-loop-rule l = HasFound l.self 4 0 l.initial.found.items → HasFound l.self 4 l.rule l.found.items
