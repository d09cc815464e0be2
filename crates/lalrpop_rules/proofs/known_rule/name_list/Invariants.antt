use Rattle.std.proofs.Common.{◌≡◌, map, take}
use Rattle.std.specs.String.{string_bytes}
use Rattle.lalrpop_rules.specs.RuleSet.{names_of}
use Rattle.lalrpop_rules.specs.ModeSet.{rules_of}
use Rattle.lalrpop_rules.proofs.known_rule.name_list.Given as goal

abbrev pub invariant-loop-rule : goal.invariant-loop-rule
invariant-loop-rule l = map (λ s. string_bytes s) l.all.items ≡ names_of (rules_of (take l.rule-index l.rules))
