use Rattle.std.proofs.Common.{None, []}
use Rattle.lalrpop_rule_file.specs.RuleLine.{Equals, bare}
use Rattle.lalrpop_rule_file.specs.Internal.Stops.{StopsText}
use Rattle.lalrpop_rule_file.specs.declared.stop.Stop.{Stop}
use Rattle.lalrpop_rule_file.proofs.Lexemes.{joined, span_read}
use Rattle.lalrpop_rule_file.proofs.Results.{handed_on}
use Rattle.lalrpop_rule_file.proofs.Stopping.{ends_behind, ends_reads, stops_behind}
use Rattle.lalrpop_rule_file.proofs.line_text.right_part.Goals as goal

pub returns-in_err-written-clause-stops : goal.returns-in_err-written-clause-stops
returns-in_err-written-clause-stops c =
    handed_on (λ (s : Stop). StopsText None c.args.right.now s.rest.now s.fault) c.from_residual.result c.in_err-written.field-0.0 c.from_residual.ensures.1
    (λ head. stops_behind (span_read (Equals head None) _ _ _ c.split_front.ensures.span) (c.in_err-written.ensures.stops head))

pub returns-in_err-text-clause-stops : goal.returns-in_err-text-clause-stops
returns-in_err-text-clause-stops c =
    handed_on (λ (s : Stop). StopsText None c.args.right.now s.rest.now s.fault) c.from_residual-in_err-text.result c.in_err-text.field-0.0 c.from_residual-in_err-text.ensures.1
    (λ head. stops_behind (joined (span_read (Equals head None) _ _ _ c.split_front.ensures.span) (c.in_ok-written.ensures.numbered head))
    (c.in_err-text.ensures.stops c.in_ok-written.written c.in_ok-written.ensures.before_text head))

pub returns-clause-right : goal.returns-clause-right
returns-clause-right c =
    rw c.precedence_or.ensures
    (λ head. joined (span_read (Equals head None) _ _ _ c.split_front.ensures.span) (joined (c.in_ok-written.ensures.numbered head) (c.in_ok-text.ensures.text c.in_ok-written.written head)))

pub returns-clause-here : goal.returns-clause-here
returns-clause-here c =
    let front = ends_reads (joined (span_read (Equals (bare []) None) _ _ _ c.split_front.ensures.span) (c.in_ok-written.ensures.numbered (bare []))) in
    ends_behind front.0 _ _ _ front.1 c.in_ok-text.ensures.here
