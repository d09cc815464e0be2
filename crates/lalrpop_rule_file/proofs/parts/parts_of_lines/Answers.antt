use Rattle.std.proofs.Common.{ap, ◌∙◌}
use Rattle.lalrpop_rule_file.specs.RuleFile.{IsRuleFileError}
use Rattle.lalrpop_rule_file.specs.Internal.Lines.{names_in}
use Rattle.lalrpop_rule_file.specs.Internal.Values.{part_of, said_of}
use Rattle.lalrpop_rule_file.proofs.Actions.{map_more}
use Rattle.lalrpop_rule_file.proofs.Definitions.{defined_aside, defined_none, defined_part, part_error}
use Rattle.lalrpop_rule_file.proofs.FileLines.{line_error}
use Rattle.lalrpop_rule_file.proofs.PartPlaces.{placed_aside, placed_at, placed_none, placed_part}
use Rattle.lalrpop_rule_file.proofs.Results.{handed_on}
use Rattle.lalrpop_rule_file.proofs.parts.parts_of_lines.Goals as goal

pub loop-line-init : goal.loop-line-init
loop-line-init c = rw (c.new-names.ensures.items, c.new-parts.ensures.items, c.new-written.ensures.items) record { defined = defined_none _; placed = placed_none _ }

pub returns-in_err-content-clause-error : goal.returns-in_err-content-clause-error
returns-in_err-content-clause-error c =
    let h = c.loop-line.invariant.defined in
    let own = c.in_err-content.field-0.0 in
    handed_on (IsRuleFileError c.args.bytes.now) c.from_residual.result own c.from_residual.ensures.1
    (line_error _ _ c.in-Some.after.now _ _ h.said own h.has_said c.in-Some.ensures.lines c.in_err-content.ensures.error)

pub returns-in_err-made-clause-error : goal.returns-in_err-made-clause-error
returns-in_err-made-clause-error c =
    let own = c.in_err-made.field-0.0 in
    let says = rw c.in-Some-defined.ensures.some at c.in_ok-content.ensures.says in
    let wrong = rw (c.deref.ensures.value, c.deref-in-Some-defined.ensures.value) at c.in_err-made.ensures.error in
    handed_on (IsRuleFileError c.args.bytes.now) c.from_residual-in_err-made.result own c.from_residual-in_err-made.ensures.1
    (part_error _ _ c.in-Some.after.now _ c.in_ok-content.field-0.content.now _ _ _ (part_of c.in-Some-defined.part) own c.loop-line.invariant.defined c.requires c.in-Some.ensures.lines says c.in_ok-content.ensures.content wrong)

pub loop-line-preserved-in_ok-push-3 : goal.loop-line-preserved-in_ok-push-3
loop-line-preserved-in_ok-push-3 c =
    let part = c.in-Some-defined.part in
    let says = rw c.in-Some-defined.ensures.some at c.in_ok-content.ensures.says in
    let is_new = rw c.deref.ensures.value at c.in_ok-made.ensures.is_new in
    let made = rw c.deref-in-Some-defined.ensures.value at c.in_ok-made.ensures.part in
    let named = ap names_in c.in_ok-push.ensures.items ∙ map_more (λ m. m.now) c.loop-line.names.items part.name.name in
    let line = c.part_line.ensures in
    let column = rw c.in_ok-content.ensures.content at line.column in
    let at = placed_at _ _ (part_of part) _ line.name line.pattern line.in_line column in
    record {
      defined = defined_part _ _ _ _ _ _ _ _ _ (part_of part) _ c.loop-line.invariant.defined c.in-Some.ensures.lines c.in-Some.ensures.shorter says is_new made named c.in_ok-push-2.ensures.items;
      placed = placed_part _ _ _ _ _ _ _ (part_of part) _ c.loop-line.invariant.placed c.in-Some.ensures.lines says at c.in_ok-push-3.ensures.items;
    }

pub loop-line-preserved : goal.loop-line-preserved
loop-line-preserved c =
    let said = said_of c.in_ok-content.field-0.said in
    record {
      defined = defined_aside _ _ _ _ _ _ _ said c.loop-line.invariant.defined c.in-Some.ensures.lines c.in-Some.ensures.shorter c.in_ok-content.ensures.says c.in_default-defined.ensures.none;
      placed = placed_aside _ _ _ _ _ _ said c.loop-line.invariant.placed c.in-Some.ensures.lines c.in_ok-content.ensures.says c.in_default-defined.ensures.none;
    }
