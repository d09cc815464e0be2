use Rattle.lalrpop_rule_file.proofs.ModeRules.{mapped_more, rules_more, same_name}
use Rattle.lalrpop_rule_file.proofs.file.RuleFile.mode_rules.Goals as goal

pub loop-rule-preserved : goal.loop-rule-preserved
loop-rule-preserved c =
    let h = c.loop-rule.invariant in
    let rs = c.args.self.now.rules.items in
    let within = rw c.deref-rule-items.ensures.value at c.loop-rule-test.true in
    let item = rw c.deref-rule-items.ensures.value at c.rule-item.is in
    let made = rw c.deref.ensures.value at c.mode_rule.ensures.rule in
    let more = c.in_ok-push.ensures.items in
    record {
      rules = rules_more _ rs _ _ c.loop-rule.rule-index _ _ _ within item h.rules made more;
      names = mapped_more (λ m. m.rule.name.now) (λ r. r.rule.name.now) rs _ _ c.loop-rule.rule-index _ _ _ within item h.names (same_name _ _ _ made) more;
      modes = mapped_more (λ m. m.modes.now) (λ r. r.modes.items) rs _ _ c.loop-rule.rule-index _ _ _ within item h.modes c.mode_rule.ensures.modes more;
      actions = mapped_more (λ m. m.actions.now) (λ r. r.actions.items) rs _ _ c.loop-rule.rule-index _ _ _ within item h.actions c.mode_rule.ensures.actions more;
    }
