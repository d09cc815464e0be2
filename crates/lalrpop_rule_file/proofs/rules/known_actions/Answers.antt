use Rattle.std.proofs.Common.{refl}
use Rattle.lalrpop_rule_file.specs.Internal.Lines.{names_in}
use Rattle.lalrpop_rule_file.proofs.ModeNumbers.{is_no_mode, missing_ends}
use Rattle.lalrpop_rule_file.proofs.rules.known_actions.Goals as goal

pub column_of-requires : goal.column_of-requires
column_of-requires c =
    let head = c.args.rule.now.head in
    let missing = rw c.deref.ensures.value at c.in-Some.ensures.some in
    missing_ends (names_in c.args.modes.now) c.args.content.now head.name.now head.is_skipped head.actions.items c.in-Some.here.now c.requires.placed missing

pub returns-in-Some-clause-error : goal.returns-in-Some-clause-error
returns-in-Some-clause-error c =
    let head = c.args.rule.now.head in
    let missing = rw c.deref.ensures.value at c.in-Some.ensures.some in
    (refl, is_no_mode (names_in c.args.modes.now) c.args.content.now head.name.now head.is_skipped head.actions.items c.in-Some.here.now c.column_of.result c.requires.placed missing c.column_of.ensures)
