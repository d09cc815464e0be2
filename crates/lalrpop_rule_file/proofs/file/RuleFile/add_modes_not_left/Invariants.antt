use Rattle.lalrpop_rule_file.specs.Internal.Found.{HasFound}
use Rattle.lalrpop_rule_file.proofs.file.RuleFile.add_modes_not_left.Given as goal

abbrev pub invariant-loop-mode : goal.invariant-loop-mode
invariant-loop-mode l = HasFound l.self 3 0 l.initial.found.items → HasFound l.self 3 l.mode l.found.items
