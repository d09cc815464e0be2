use Rattle.std.proofs.Common.{[]}
use Rattle.lalrpop_rule_file.specs.RuleLine.{Listing}
use Rattle.lalrpop_rule_file.specs.Internal.Stops.{IsUnread}
use Rattle.lalrpop_rule_file.specs.declared.stop.Unread.TheVariants.{Stopped}
use Rattle.lalrpop_rule_file.proofs.Lexemes.{joined, span_read}
use Rattle.lalrpop_rule_file.proofs.Results.{handed_on}
use Rattle.lalrpop_rule_file.proofs.Stopping.{stops_behind, unread_behind}
use Rattle.lalrpop_rule_file.proofs.section.section_behind.Goals as goal

pub returns-in_err-section-clause-unread : goal.returns-in_err-section-clause-unread
returns-in_err-section-clause-unread c =
    let own = c.in_err-section.field-0.0 in
    handed_on (IsUnread (Listing []) c.args.text.now) c.from_residual.result own c.from_residual.ensures.1
    (unread_behind own (span_read (Listing []) _ _ _ c.split_front.ensures.span) c.in_err-section.ensures.unread)

pub returns-in_err-ended-clause-unread : goal.returns-in_err-ended-clause-unread
returns-in_err-ended-clause-unread c =
    let own = c.in_err-ended.field-0.0 in
    handed_on (IsUnread (Listing []) c.args.text.now) c.from_residual-in_err-ended.result (Stopped own) c.from_residual-in_err-ended.ensures.1
    (stops_behind (joined (span_read (Listing []) _ _ _ c.split_front.ensures.span) c.in_ok-section.ensures.modes) c.in_err-ended.ensures.stops)

pub returns-clause-section : goal.returns-clause-section
returns-clause-section c =
    joined (span_read (Listing []) _ _ _ c.split_front.ensures.span) (joined c.in_ok-section.ensures.modes c.in_ok-ended.ensures.ended)
