use Rattle.std.proofs.Common.{sym}
use Rattle.std.proofs.lemmas.Bool.{eqb-false}
use Rattle.lalrpop_rule_file.specs.RuleLine.{nothing}
use Rattle.lalrpop_rule_file.proofs.Stopping.{no_number, numbered}
use Rattle.lalrpop_rule_file.proofs.line_text.numbered.Goals as goal

pub returns-then-is_empty-clause-numbered : goal.returns-then-is_empty-clause-numbered
returns-then-is_empty-clause-numbered c head = nothing

pub returns-in_default-clause-stops : goal.returns-in_default-clause-stops
returns-in_default-clause-stops c = no_number _ _ _ c.requires c.split_front.ensures.span (eqb-false _ _ (sym c.if-is_empty.ensures)) c.in_default.ensures.none

pub returns-clause-numbered : goal.returns-clause-numbered
returns-clause-numbered c head = numbered head _ _ _ _ _ _ c.split_front.ensures.span c.in-Some.ensures.some c.split_front-2.ensures.span
