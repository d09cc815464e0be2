use Rattle.std.proofs.Common.{map, take}
use Rattle.lalrpop_rules.specs.Internal.Cutting.{HasAtMost}
use Rattle.lalrpop_rules.proofs.rule_lexer.most_actions.Given as goal

abbrev pub invariant-loop-rule : goal.invariant-loop-rule
invariant-loop-rule l = HasAtMost l.most (map (λ k. k.actions.items) (take l.rule-index l.known))
