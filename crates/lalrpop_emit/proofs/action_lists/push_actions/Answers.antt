use Rattle.std.proofs.Common.{◌<◌, ◌^◌, arith}
use Rattle.bajofeki_rules.specs.declared.action.Action.TheVariants.{Mode}
use Rattle.lalrpop_emit.proofs.ActionNumbers.{actions_on, small_mode, small_on}
use Rattle.lalrpop_emit.proofs.action_lists.push_actions.Goals as goal

pub action_number-requires : goal.action_number-requires
action_number-requires c = small_mode c.args.actions.now c.loop-action.action-index (Mode 0) c.loop-action-test.true c.requires.below

pub loop-action-preserved : goal.loop-action-preserved
loop-action-preserved c =
    let number = c.action_number.result in
    let small : number < 2 ^ 32 = omega (arith, c.action_number.ensures.small) in
    record {
      numbers =
          actions_on c.args.numbers.now.items c.loop-action.numbers.items c.push.new.self.items c.args.actions.now c.loop-action.action-index number (Mode 0)
          c.loop-action-test.true c.loop-action.invariant.numbers c.action_number.ensures.number c.in_ok-push.ensures.items;
      small = small_on c.loop-action.numbers.items c.push.new.self.items number c.loop-action.invariant.small small c.in_ok-push.ensures.items;
    }
