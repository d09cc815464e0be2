use Rattle.lalrpop_rule_file.specs.RuleLine.{Defining}
use Rattle.lalrpop_rule_file.specs.RuleFault.{StopsBefore}
use Rattle.lalrpop_rule_file.specs.declared.stop.Stop.{Stop}
use Rattle.lalrpop_rule_file.proofs.PartLines.{part_equals, part_reads, part_stops, part_without_equals, pattern_behind}
use Rattle.lalrpop_rule_file.proofs.Results.{handed_on}
use Rattle.lalrpop_rule_file.proofs.Stopping.{ends_reads}
use Rattle.lalrpop_rule_file.proofs.line_part.part_behind.Goals as goal

pub returns-in_err-right-clause-stops : goal.returns-in_err-right-clause-stops
returns-in_err-right-clause-stops c =
    let own = c.in_err-right.field-0.0 in
    let name = c.args.name.name.now in
    handed_on (λ (s : Stop). StopsBefore (Defining name) c.args.text.now s.rest.now s.fault) c.from_residual.result own c.from_residual.ensures.1
    (part_without_equals name c.args.text.now _ _ own.rest.now own.fault c.split_front.ensures.span c.in_err-right.ensures.none c.in_err-right.ensures.stops)

pub returns-clause-part : goal.returns-clause-part
returns-clause-part c =
    let name = c.args.name.name.now in
    part_reads name c.args.text.now _ c.pattern_behind.result (part_equals name c.args.text.now _ _ _ c.split_front.ensures.span c.in_ok-right.ensures.equals) c.pattern_behind.ensures.part

pub returns-clause-pattern : goal.returns-clause-pattern
returns-clause-pattern c =
    let before = part_equals c.args.name.name.now c.args.text.now _ _ _ c.split_front.ensures.span c.in_ok-right.ensures.equals in
    pattern_behind c.args.text.now _ c.pattern_behind.result (ends_reads before) c.pattern_behind.ensures.pattern

pub returns-clause-stops : goal.returns-clause-stops
returns-clause-stops c =
    let name = c.args.name.name.now in
    part_stops name c.args.text.now _ c.pattern_behind.result (part_equals name c.args.text.now _ _ _ c.split_front.ensures.span c.in_ok-right.ensures.equals) c.pattern_behind.ensures.stops
