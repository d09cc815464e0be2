use Rattle.lalrpop_rule_file.specs.Internal.Lines.{names_in}
use Rattle.lalrpop_rule_file.proofs.ModeNumbers.{first_missing, leads_more}
use Rattle.lalrpop_rule_file.proofs.numbers.missing_mode.Goals as goal

pub returns-in-Some-clause-some : goal.returns-in-Some-clause-some
returns-in-Some-clause-some c =
    first_missing (names_in c.args.modes.now) c.args.actions.now c.loop-action.action-index _ _ c.loop-action-test.true c.loop-action.invariant c.in-Some.ensures.some

pub loop-action-preserved : goal.loop-action-preserved
loop-action-preserved c =
    leads_more (names_in c.args.modes.now) c.args.actions.now c.loop-action.action-index _ c.loop-action-test.true c.loop-action.invariant c.in_default.ensures.none
