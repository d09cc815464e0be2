use Rattle.std.proofs.Common.{sym}
use Rattle.lalrpop_rule_file.proofs.Stopping.{named, no_name}
use Rattle.lalrpop_rule_file.proofs.head.name_and_rest.Goals as goal

pub returns-then-not-begins_name-clause-stops : goal.returns-then-not-begins_name-clause-stops
returns-then-not-begins_name-clause-stops c = no_name _ _ _ c.split_front.ensures.span (sym c.if-not-begins_name.ensures) c.requires

pub returns-clause-named : goal.returns-clause-named
returns-clause-named c =
    named _ _ _ _ _ _ _ c.split_front.ensures.span (sym c.if-not-begins_name.ensures) c.split_front-2.ensures.span c.split_front-3.ensures.span

pub returns-clause-placed : goal.returns-clause-placed
returns-clause-placed c = (_, (_, (c.split_front.ensures.span, c.split_front-2.ensures.span)))
