use Rattle.std.proofs.Common.{sym}
use Rattle.std.proofs.lemmas.Bool.{eqb-false, eqb-true}
use Rattle.lalrpop_rule_file.specs.Internal.Values.{section_of}
use Rattle.lalrpop_rule_file.proofs.Stopping.{behind_section, ended, no_bracket}
use Rattle.lalrpop_rule_file.proofs.section.ended.Goals as goal

pub returns-in_default-clause-stops : goal.returns-in_default-clause-stops
returns-in_default-clause-stops c = no_bracket (section_of c.args.section.now) _ c.requires.no_blank c.requires.listed c.in_default.ensures.none

pub returns-then-not-is_empty-clause-stops : goal.returns-then-not-is_empty-clause-stops
returns-then-not-is_empty-clause-stops c =
    behind_section (section_of c.args.section.now) _ _ _ _ c.requires.listed c.in-Some.ensures.some c.split_front.ensures.span (eqb-false _ _ (sym c.if-not-is_empty.ensures))

pub returns-clause-ended : goal.returns-clause-ended
returns-clause-ended c =
    ended (section_of c.args.section.now) _ _ _ _ c.requires.listed c.in-Some.ensures.some c.split_front.ensures.span (eqb-true _ _ (sym c.if-not-is_empty.ensures))
