use Rattle.lalrpop_rule_file.proofs.UsedParts.{NoneInRules}
use Rattle.lalrpop_rule_file.proofs.used_parts.stands_in_rule.Given as goal

abbrev pub invariant-loop-rule : goal.invariant-loop-rule
invariant-loop-rule l = NoneInRules l.reference l.part l.rules l.rule-index
