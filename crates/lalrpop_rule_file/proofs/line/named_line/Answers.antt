use Rattle.lalrpop_rule_file.specs.RuleLine.{Start, a_part, lexeme_then, nothing}
use Rattle.lalrpop_rule_file.specs.Internal.Stops.{IsUnread}
use Rattle.lalrpop_rule_file.specs.declared.stop.Unread.TheVariants.{Stopped}
use Rattle.lalrpop_rule_file.proofs.Actions.{all_placed_behind}
use Rattle.lalrpop_rule_file.proofs.Lexemes.{joined}
use Rattle.lalrpop_rule_file.proofs.PartLines.{pattern_in}
use Rattle.lalrpop_rule_file.proofs.Results.{handed_on}
use Rattle.lalrpop_rule_file.proofs.Stopping.{ends_behind, ends_reads, stops_behind, unread_behind}
use Rattle.lalrpop_rule_file.proofs.line.named_line.Goals as goal

pub returns-in_err-part-clause-unread : goal.returns-in_err-part-clause-unread
returns-in_err-part-clause-unread c =
    handed_on (IsUnread Start c.args.line.now) c.from_residual-in_err-part.result (Stopped c.in_err-part.field-0.0) c.from_residual-in_err-part.ensures.1
    (stops_behind (joined c.in_ok-name.ensures.named (lexeme_then (a_part c.in-Some.ensures.some) nothing)) c.in_err-part.ensures.stops)

pub returns-in-Some-clause-says : goal.returns-in-Some-clause-says
returns-in-Some-clause-says c = joined c.in_ok-name.ensures.named (lexeme_then (a_part c.in-Some.ensures.some) c.in_ok-part.ensures.part)

pub returns-in-Some-clause-kept : goal.returns-in-Some-clause-kept
returns-in-Some-clause-kept c =
    let part = c.in_ok-part in
    let read = joined c.in_ok-name.ensures.named (lexeme_then (a_part c.in-Some.ensures.some) nothing) in
    (rw part.ensures.name c.in_ok-name.ensures.placed, pattern_in c.args.line.now c.in-Some.behind.now part.part (ends_reads read) part.ensures.pattern)

pub returns-in_err-rule-clause-unread : goal.returns-in_err-rule-clause-unread
returns-in_err-rule-clause-unread c =
    let own = c.in_err-rule.field-0.0 in
    handed_on (IsUnread Start c.args.line.now) c.from_residual-in_err-rule.result own c.from_residual-in_err-rule.ensures.1 (unread_behind own c.in_ok-name.ensures.named c.in_err-rule.ensures.unread)

pub returns-clause-says : goal.returns-clause-says
returns-clause-says c = joined c.in_ok-name.ensures.named c.in_ok-rule.ensures.rule

pub returns-clause-kept : goal.returns-clause-kept
returns-clause-kept c =
    let rule = c.in_ok-rule in
    let front = ends_reads c.in_ok-name.ensures.named in
    let here = ends_behind front.0 _ _ _ front.1 (rule.ensures.begins.0, rule.ensures.begins.1.0) in
    (all_placed_behind rule.rule.head.actions.items c.in_ok-name.ensures.named rule.ensures.placed, (here.0, (here.1, rule.ensures.begins.1.1)))
