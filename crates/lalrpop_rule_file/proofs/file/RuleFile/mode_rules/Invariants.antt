use Rattle.std.proofs.Common.{◌≡◌, map, take}
use Rattle.lalrpop_rule_file.specs.RuleFile.{AreModeRules}
use Rattle.lalrpop_rule_file.proofs.file.RuleFile.mode_rules.Given as goal

abbrev pub invariant-loop-rule : goal.invariant-loop-rule
invariant-loop-rule l = record {
  rules : AreModeRules l.self.parts.items (take l.rule-index l.self.rules.items) l.all.items;
  names : map (λ m. m.rule.name.now) l.all.items ≡ map (λ r. r.rule.name.now) (take l.rule-index l.self.rules.items);
  modes : map (λ r. r.modes.now) l.all.items ≡ map (λ r. r.modes.items) (take l.rule-index l.self.rules.items);
  actions : map (λ r. r.actions.now) l.all.items ≡ map (λ r. r.actions.items) (take l.rule-index l.self.rules.items);
}
