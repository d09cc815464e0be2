use Rattle.lalrpop_rules.proofs.NamedModes.{members_more}
use Rattle.lalrpop_rules.proofs.missing.missing_member.Goals as goal

pub loop-mode-preserved : goal.loop-mode-preserved
loop-mode-preserved c =
    members_more c.args.modes c.args.members.now c.loop-mode.mode-index _ c.loop-mode-test.true c.loop-mode.invariant c.if-mode-modes.false
