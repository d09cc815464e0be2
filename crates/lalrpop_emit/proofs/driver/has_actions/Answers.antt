use Rattle.std.proofs.Common.{length, ap, arith, subst, sym, ◌∙◌, ◌==◌}
use Rattle.std.proofs.Math.Bool.{not, not-not}
use Rattle.std.proofs.lemmas.Bool.{eqb-true}
use Rattle.bajofeki_rules.specs.Stack.{actions_of}
use Rattle.lalrpop_emit.specs.NumberedRules.{NumberedRules}
use Rattle.lalrpop_emit.specs.Internal.Walking.{IsDrivable}
use Rattle.lalrpop_emit.proofs.Actions.{none_of_them, read_within}
use Rattle.lalrpop_emit.proofs.Driving.{acts_of_rule, none_of_rule, rule_read}
use Rattle.lalrpop_emit.proofs.driver.has_actions.Goals as goal

pub index-requires-then-len : goal.index-requires-then-len
index-requires-then-len c =
    let n = c.args.numbers.now in
    let drivable = subst IsDrivable c.numbers.view_is c.numbers.invariant.1 in
    let rule = rule_read _ n c.args.rule c.index.result.now c.numbers.view_is drivable c.requires c.index.ensures in
    let within = read_within c.numbers.inside.actions.items n.actions (length n.tables) c.index.result.now rule.acts.0 (ap (λ (x : NumberedRules). x.actions) c.numbers.view_is) rule.acts.1 in
    omega (arith, within, c.numbers.inside.actions.ok.0)

pub returns-then-len : goal.returns-then-len
returns-then-len c = λ none r are.
    let n = c.args.numbers.now in
    let drivable = subst IsDrivable c.numbers.view_is c.numbers.invariant.1 in
    let rule = rule_read _ n c.args.rule c.index.result.now c.numbers.view_is drivable c.requires c.index.ensures in
    none_of_them c.numbers.inside.actions.items n.actions (length n.tables) c.index.result.now c.index-then-len.result.now (actions_of r.actions c.args.rule)
    (ap (λ (x : NumberedRules). x.actions) c.numbers.view_is) (acts_of_rule r n c.args.rule c.index.result.now are rule) c.index-then-len.ensures
    (eqb-true c.index-then-len.result.now 0 (sym (not-not (c.index-then-len.result.now == 0)) ∙ ap not none))

pub returns-else-len : goal.returns-else-len
returns-else-len c = λ none r are.
    let n = c.args.numbers.now in
    let actions = ap (λ (x : NumberedRules). length x.actions) c.numbers.view_is in
    let places = ap (λ (x : NumberedRules). length x.first_actions) c.numbers.view_is in
    none_of_rule r n c.args.rule are c.requires
    (omega (arith, c.if-len.false, c.len.ensures, c.len-2.ensures, actions, places, c.numbers.inside.actions.ok.0, c.numbers.inside.first_actions.ok.0))
