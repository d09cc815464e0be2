use Rattle.lalrpop_rule_file.specs.Internal.Found.{HasFound}
use Rattle.lalrpop_rule_file.proofs.file.RuleFile.add_unused_parts.Given as goal

abbrev pub invariant-loop-part : goal.invariant-loop-part
invariant-loop-part l = HasFound l.self 1 0 l.initial.found.items → HasFound l.self 1 l.part l.found.items
