use Rattle.bajofeki_rules.proofs.MarkedModes.{targets_marked}
use Rattle.bajofeki_rules.proofs.entered.mark_targets.Goals as goal

pub loop-action-preserved : goal.loop-action-preserved
loop-action-preserved c =
    targets_marked _ _ _ c.args.actions.now c.loop-action.action-index _ _ _ c.loop-action-test.true c.loop-action.invariant c.mark_target-is_any.ensures
