use Rattle.lalrpop_rule_file.proofs.Stopping.{no_from}
use Rattle.lalrpop_rule_file.specs.RuleLine.{From}
use Rattle.lalrpop_rule_file.proofs.Texts.{in_quote, here_behind, here_in_quotes, stops_in_quote}
use Rattle.lalrpop_rule_file.proofs.line_text.from_to.Goals as goal

pub returns-in_default-clause-stops : goal.returns-in_default-clause-stops
returns-in_default-clause-stops c = no_from _ _ _ c.split_front.ensures.span c.in_default.ensures.none

pub returns-clause-joined : goal.returns-clause-joined
returns-clause-joined c = in_quote From _ _ _ _ c.joined.result c.split_front.ensures.span c.in-Some.ensures.some c.joined.ensures.joined

pub returns-clause-here : goal.returns-clause-here
returns-clause-here c =
    here_behind _ _ _ c.joined.result c.split_front.ensures.span.parts (here_in_quotes _ _ 39 c.joined.result c.in-Some.ensures.some c.joined.ensures.here)

pub returns-clause-stops : goal.returns-clause-stops
returns-clause-stops c = stops_in_quote From _ _ _ _ c.joined.result c.split_front.ensures.span c.in-Some.ensures.some c.joined.ensures.stops
