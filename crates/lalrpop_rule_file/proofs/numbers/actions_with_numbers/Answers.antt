use Rattle.lalrpop_rule_file.specs.Internal.Lines.{names_in}
use Rattle.lalrpop_rule_file.proofs.ModeNumbers.{actions_more, leads_at}
use Rattle.lalrpop_rule_file.proofs.numbers.actions_with_numbers.Goals as goal

pub action_with_number-requires : goal.action_with_number-requires
action_with_number-requires c = leads_at (names_in c.args.modes.now) c.args.actions.now c.loop-action.action-index _ c.loop-action-test.true c.requires

pub loop-action-preserved : goal.loop-action-preserved
loop-action-preserved c =
    actions_more (names_in c.args.modes.now) c.args.actions.now c.loop-action.all.items c.push.new.self.items c.loop-action.action-index _ _ c.loop-action-test.true c.loop-action.invariant
    c.action_with_number.ensures c.in_ok-push.ensures.items
