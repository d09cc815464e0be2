use Rattle.lalrpop_rule_file.specs.Internal.Lines.{names_in}
use Rattle.lalrpop_rule_file.proofs.ModeNumbers.{names_more}
use Rattle.lalrpop_rule_file.proofs.Names.{add_further}
use Rattle.lalrpop_rule_file.proofs.modes.add_names.Goals as goal

pub loop-name-preserved : goal.loop-name-preserved
loop-name-preserved c =
    add_further (names_in c.args.modes.now.items) (names_in c.loop-name.modes.items) (names_in c.add_name.new.modes.items) _ _ _ c.loop-name.invariant c.in_ok-add_name.ensures.added
    (names_more c.args.names.now c.loop-name.name-index _ c.loop-name-test.true)
