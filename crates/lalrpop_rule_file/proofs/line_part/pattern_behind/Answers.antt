use Rattle.lalrpop_rule_file.proofs.PartLines.{ends_slashed, no_pattern, pattern_behind, slash_reads, slash_stops}
use Rattle.lalrpop_rule_file.proofs.line_part.pattern_behind.Goals as goal

pub returns-in_default-clause-stops : goal.returns-in_default-clause-stops
returns-in_default-clause-stops c = no_pattern c.args.name.name.now _ _ _ c.split_front.ensures.span c.in_default.ensures.none

pub returns-clause-part : goal.returns-clause-part
returns-clause-part c = slash_reads c.args.name.name.now _ _ _ _ c.slashed.result c.split_front.ensures.span c.in-Some.ensures.some c.slashed.ensures.part

pub returns-clause-pattern : goal.returns-clause-pattern
returns-clause-pattern c = pattern_behind _ _ c.slashed.result (ends_slashed _ _ _ _ c.split_front.ensures.span c.in-Some.ensures.some) c.slashed.ensures.pattern

pub returns-clause-stops : goal.returns-clause-stops
returns-clause-stops c = slash_stops c.args.name.name.now _ _ _ _ c.slashed.result c.split_front.ensures.span c.in-Some.ensures.some c.slashed.ensures.stops
