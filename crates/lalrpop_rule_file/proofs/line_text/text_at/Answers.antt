use Rattle.std.specs.Prelude.{codes}
use Rattle.lalrpop_rule_file.specs.RuleLine.{From, InAnyCase, a_from, an_any_case}
use Rattle.lalrpop_rule_file.proofs.Stopping.{no_text}
use Rattle.lalrpop_rule_file.proofs.Texts.{here_behind, here_in_quotes, stops_in_text, text_behind}
use Rattle.lalrpop_rule_file.proofs.line_text.text_at.Goals as goal

pub returns-in-Some-clause-here : goal.returns-in-Some-clause-here
returns-in-Some-clause-here c = here_in_quotes _ _ _ c.quoted.result c.in-Some.ensures.some c.quoted.ensures.here

pub returns-in-Some-behind_word-clause-text : goal.returns-in-Some-behind_word-clause-text
returns-in-Some-behind_word-clause-text c = text_behind InAnyCase _ _ c.any_case.result (λ head written. an_any_case c.in-Some-behind_word.ensures.some) c.any_case.ensures.any_case

pub returns-in-Some-behind_word-clause-here : goal.returns-in-Some-behind_word-clause-here
returns-in-Some-behind_word-clause-here c = here_behind (codes "anycase") _ _ c.any_case.result c.in-Some-behind_word.ensures.some.parts c.any_case.ensures.here

pub returns-in-Some-behind_word-clause-stops : goal.returns-in-Some-behind_word-clause-stops
returns-in-Some-behind_word-clause-stops c = stops_in_text InAnyCase _ _ c.any_case.result (λ head written. an_any_case c.in-Some-behind_word.ensures.some) c.any_case.ensures.stops

pub returns-in-Some-behind_word-2-clause-text : goal.returns-in-Some-behind_word-2-clause-text
returns-in-Some-behind_word-2-clause-text c = text_behind From _ _ c.from_to.result (λ head written. a_from c.in-Some-behind_word-2.ensures.some) c.from_to.ensures.joined

pub returns-in-Some-behind_word-2-clause-here : goal.returns-in-Some-behind_word-2-clause-here
returns-in-Some-behind_word-2-clause-here c = here_behind (codes "from") _ _ c.from_to.result c.in-Some-behind_word-2.ensures.some.parts c.from_to.ensures.here

pub returns-in-Some-behind_word-2-clause-stops : goal.returns-in-Some-behind_word-2-clause-stops
returns-in-Some-behind_word-2-clause-stops c = stops_in_text From _ _ c.from_to.result (λ head written. a_from c.in-Some-behind_word-2.ensures.some) c.from_to.ensures.stops

pub returns-clause-stops : goal.returns-clause-stops
returns-clause-stops c = no_text _ c.in_default.ensures.none c.in_default-behind_word.ensures.none c.in_default-behind_word-2.ensures.none
