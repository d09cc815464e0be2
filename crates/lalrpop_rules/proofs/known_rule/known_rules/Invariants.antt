use Rattle.std.proofs.Common.{◌≡◌, map, take}
use Rattle.lalrpop_rules.proofs.known_rule.known_rules.Given as goal

abbrev pub invariant-loop-rule : goal.invariant-loop-rule
invariant-loop-rule l = record {
  modes : map (λ k. k.modes.items) l.all.items ≡ map (λ r. r.modes.now) (take l.rule-index l.rules);
  actions : map (λ k. k.actions.items) l.all.items ≡ map (λ r. r.actions.now) (take l.rule-index l.rules);
}
