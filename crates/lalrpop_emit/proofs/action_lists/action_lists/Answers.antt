use Rattle.std.proofs.Common.{◌≡◌, ◌<◌, ◌≤◌, ◌+◌, ◌^◌, ◌∙◌, ap, arith, length, string_bytes}
use Rattle.std.proofs.lemmas.List.{length-map}
use Rattle.bajofeki_rules.specs.Stack.{actions_of}
use Rattle.lalrpop_emit.specs.NumberedRules.{action_numbers}
use Rattle.lalrpop_emit.proofs.ActionNumbers.{below_on, few_of_first, first_rules, numbers_on, places_on, small_on}
use Rattle.lalrpop_emit.proofs.action_lists.action_lists.Goals as goal

pub returns-then-len-gt-MOST-clause-error : goal.returns-then-len-gt-MOST-clause-error
returns-then-len-gt-MOST-clause-error c =
    let r = c.args.rules.now in
    let actions : c.actions.result.now ≡ actions_of r.actions c.loop-rule.rule = c.actions.ensures.actions ∙ ap (actions_of r.actions) c.new.ensures.value in
    let numbers : c.push_actions.new.numbers.items ≡ action_numbers (first_rules r (c.loop-rule.rule + 1)) =
    numbers_on r c.loop-rule.rule c.loop-rule.numbers.items c.push_actions.new.numbers.items c.actions.result.now c.loop-rule.invariant.numbers actions c.in_ok-push_actions.ensures.numbers in
    let within : c.loop-rule.rule + 1 ≤ length r.names = omega (arith, length-map c.names-rule-end.result.now (λ s. string_bytes s), ap length c.names-rule-end.ensures.names) in
    omega (arith, ap length numbers, few_of_first r (c.loop-rule.rule + 1) within, c.len-in-loop-rule.ensures, c.if-len-gt-MOST.true)

pub loop-rule-preserved : goal.loop-rule-preserved
loop-rule-preserved c =
    let r = c.args.rules.now in
    let actions : c.actions.result.now ≡ actions_of r.actions c.loop-rule.rule = c.actions.ensures.actions ∙ ap (actions_of r.actions) c.new.ensures.value in
    let place_is : c.len.result ≡ length c.loop-rule.numbers.items = omega (arith, c.len.ensures) in
    let place : c.len.result < 2 ^ 32 = omega (arith, c.len.ensures, c.loop-rule.invariant.few) in
    record {
      first =
          places_on r c.loop-rule.rule c.loop-rule.first_places.items c.push.new.self.items c.loop-rule.numbers.items c.len.result c.loop-rule.invariant.first
          c.loop-rule.invariant.numbers place_is c.in_ok-push.ensures.items;
      numbers =
          numbers_on r c.loop-rule.rule c.loop-rule.numbers.items c.push_actions.new.numbers.items c.actions.result.now c.loop-rule.invariant.numbers actions
          c.in_ok-push_actions.ensures.numbers;
      small_first = small_on c.loop-rule.first_places.items c.push.new.self.items c.len.result c.loop-rule.invariant.small_first place c.in_ok-push.ensures.items;
      small = c.in_ok-push_actions.ensures.small;
      few = omega (arith, c.len-in-loop-rule.ensures, c.if-len-gt-MOST.false);
      below = below_on r c.loop-rule.rule c.actions.result.now c.loop-rule.invariant.below actions c.actions.ensures.within;
    }
