use Rattle.lalrpop_rule_file.proofs.Stopping.{no_literal}
use Rattle.lalrpop_rule_file.specs.RuleLine.{InAnyCase}
use Rattle.lalrpop_rule_file.proofs.Texts.{in_quote, here_behind, here_in_quotes, stops_in_quote}
use Rattle.lalrpop_rule_file.proofs.line_text.any_case.Goals as goal

pub returns-in_default-clause-stops : goal.returns-in_default-clause-stops
returns-in_default-clause-stops c = no_literal _ _ _ c.split_front.ensures.span c.in_default.ensures.none

pub returns-clause-any_case : goal.returns-clause-any_case
returns-clause-any_case c = in_quote InAnyCase _ _ _ _ c.in_any_case.result c.split_front.ensures.span c.in-Some.ensures.some c.in_any_case.ensures.any_case

pub returns-clause-here : goal.returns-clause-here
returns-clause-here c =
    here_behind _ _ _ c.in_any_case.result c.split_front.ensures.span.parts (here_in_quotes _ _ 39 c.in_any_case.result c.in-Some.ensures.some c.in_any_case.ensures.here)

pub returns-clause-stops : goal.returns-clause-stops
returns-clause-stops c = stops_in_quote InAnyCase _ _ _ _ c.in_any_case.result c.split_front.ensures.span c.in-Some.ensures.some c.in_any_case.ensures.stops
