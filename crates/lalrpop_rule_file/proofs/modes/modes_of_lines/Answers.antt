use Rattle.lalrpop_rule_file.specs.RuleFile.{IsRuleFileError}
use Rattle.lalrpop_rule_file.specs.Internal.Values.{said_of}
use Rattle.lalrpop_rule_file.proofs.FileLines.{line_error, named_line}
use Rattle.lalrpop_rule_file.proofs.Results.{handed_on}
use Rattle.lalrpop_rule_file.proofs.modes.modes_of_lines.Goals as goal

pub returns-in_err-line-clause-error : goal.returns-in_err-line-clause-error
returns-in_err-line-clause-error c =
    let h = c.loop-line.invariant in
    let own = c.in_err-line.field-0.0 in
    handed_on (IsRuleFileError c.args.bytes.now) c.from_residual-in_err-line.result own c.from_residual-in_err-line.ensures.1
    (line_error _ _ c.in-Some.after.now _ _ h.said own h.has_said c.in-Some.ensures.lines c.in_err-line.ensures.error)

pub loop-line-preserved : goal.loop-line-preserved
loop-line-preserved c =
    named_line _ _ _ _ _ _ _ _ _ (said_of c.in_ok-line.line.said) c.loop-line.invariant c.in-Some.ensures.lines c.in-Some.ensures.shorter c.in_ok-line.ensures.says
    c.in_ok-section-2.ensures.added c.in_ok-section-2.ensures.section
