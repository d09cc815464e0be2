use Rattle.std.proofs.Common.{◌≡◌, map, take}
use Rattle.lalrpop_rules.specs.RuleSet.{precedences_of}
use Rattle.lalrpop_rules.specs.ModeSet.{rules_of}
use Rattle.lalrpop_rules.proofs.known_rule.precedence_list.Given as goal

abbrev pub invariant-loop-rule : goal.invariant-loop-rule
invariant-loop-rule l = map (λ p. p.0) l.all.items ≡ precedences_of (rules_of (take l.rule-index l.rules))
