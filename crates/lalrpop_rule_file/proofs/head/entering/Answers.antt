use Rattle.std.proofs.Common.{sym}
use Rattle.lalrpop_rule_file.specs.RuleLine.{Entering}
use Rattle.lalrpop_rule_file.specs.Internal.Values.{entry_of}
use Rattle.lalrpop_rule_file.proofs.Lexemes.{span_read}
use Rattle.lalrpop_rule_file.proofs.Stopping.{entered, no_mode}
use Rattle.lalrpop_rule_file.proofs.head.entering.Goals as goal

pub returns-then-not-begins_name-clause-stops : goal.returns-then-not-begins_name-clause-stops
returns-then-not-begins_name-clause-stops c = no_mode (entry_of c.args.entry) _ _ _ c.split_front.ensures.span (sym c.if-not-begins_name.ensures)

pub returns-clause-acts : goal.returns-clause-acts
returns-clause-acts c =
    entered (entry_of c.args.entry) _ _ _ _ _ _ _ c.split_front.ensures.span (sym c.if-not-begins_name.ensures) c.split_front-2.ensures.span c.split_front-3.ensures.span

pub returns-clause-placed : goal.returns-clause-placed
returns-clause-placed c head =
    (span_read (Entering head (entry_of c.args.entry)) _ _ _ c.split_front.ensures.span, sym c.if-not-begins_name.ensures, (_, c.split_front-2.ensures.span))
