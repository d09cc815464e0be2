use Rattle.lalrpop_rules.specs.ModeSet.{NameWithin}
use Rattle.lalrpop_rules.proofs.missing.all_there.Given as goal

abbrev pub invariant-loop-rule : goal.invariant-loop-rule
invariant-loop-rule l = NameWithin l.rules l.modes l.rule
