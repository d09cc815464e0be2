use Rattle.std.proofs.Common.{take}
use Rattle.lalrpop_rules.specs.ModeSet.{AreInOneMode}
use Rattle.lalrpop_rules.proofs.one_mode.in_one_mode.Given as goal

abbrev pub invariant-loop-rule : goal.invariant-loop-rule
invariant-loop-rule l = AreInOneMode (take l.rule-index l.rules) l.all.items
