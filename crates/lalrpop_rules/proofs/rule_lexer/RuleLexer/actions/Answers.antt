use Rattle.std.proofs.Common.{◌≡◌, map, subst}
use Rattle.bajofeki_rules.specs.Stack.{actions_of}
use Rattle.bajofeki_rules.specs.EnteredModes.{OneLeadsInto}
use Rattle.lalrpop_rules.proofs.rule_lexer.RuleLexer.actions.Goals as goal

pub returns-clause-within : goal.returns-clause-within
returns-clause-within c m leads =
    let same : c.actions_at.result.now ≡ actions_of (map (λ k. k.actions.items) c.self.inside.known.items) c.args.index =
    rw (c.deref.ensures.value, c.index.ensures.value) at c.actions_at.ensures.actions in
    rw (← c.self.view_is) (c.self.invariant.within c.args.index m (subst (λ acts. OneLeadsInto acts m) same leads))
