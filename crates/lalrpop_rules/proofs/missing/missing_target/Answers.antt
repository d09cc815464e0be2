use Rattle.lalrpop_rules.proofs.NamedModes.{leads_at, targets_more}
use Rattle.lalrpop_rules.proofs.missing.missing_target.Goals as goal

pub returns-in-Some-clause-some : goal.returns-in-Some-clause-some
returns-in-Some-clause-some c = (
  c.in-Some.ensures.some.0,
  leads_at c.args.actions.now c.loop-action.action-index _ c.in-Some.mode c.loop-action-test.true c.in-Some.ensures.some.1,
)

pub loop-action-preserved : goal.loop-action-preserved
loop-action-preserved c =
    targets_more c.args.modes c.args.actions.now c.loop-action.action-index _ c.loop-action-test.true c.loop-action.invariant c.in_default.ensures.none
