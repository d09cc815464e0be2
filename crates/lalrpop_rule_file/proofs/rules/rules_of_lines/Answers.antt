use Rattle.lalrpop_rule_file.specs.RuleFile.{IsRuleFileError}
use Rattle.lalrpop_rule_file.specs.Internal.Values.{part_of, rule_of, section_of}
use Rattle.lalrpop_rule_file.proofs.FileLines.{line_error, read_none, read_nothing, read_heading, read_part, read_rule, rule_error}
use Rattle.lalrpop_rule_file.proofs.Results.{handed_on}
use Rattle.lalrpop_rule_file.proofs.rules.rules_of_lines.Goals as goal

pub loop-line-init : goal.loop-line-init
loop-line-init c = rw c.new-rules.ensures.items (read_none _ _ _ c.requires.modes c.in_ok-here.ensures.numbers)

pub returns-in_err-content-clause-error : goal.returns-in_err-content-clause-error
returns-in_err-content-clause-error c =
    let h = c.loop-line.invariant in
    let own = c.in_err-content.field-0.0 in
    handed_on (IsRuleFileError c.args.bytes.now) c.from_residual-in_err-content.result own c.from_residual-in_err-content.ensures.1
    (line_error _ _ c.in-Some.after.now _ _ h.said own h.has_said c.in-Some.ensures.lines c.in_err-content.ensures.error)

pub returns-in_err-file_rule-in-Rule-clause-error : goal.returns-in_err-file_rule-in-Rule-clause-error
returns-in_err-file_rule-in-Rule-clause-error c =
    let own = c.in_err-file_rule-in-Rule.field-0.0 in
    let says = rw c.in-Rule.is at c.in_ok-content.ensures.says in
    handed_on (IsRuleFileError c.args.bytes.now) c.from_residual-in_err-file_rule-in-Rule.result own c.from_residual-in_err-file_rule-in-Rule.ensures.1
    (rule_error _ _ c.in-Some.after.now _ _ _ _ _ _ (rule_of c.in-Rule.rule) own c.loop-line.invariant c.in-Some.ensures.lines says _ c.in_ok-content.ensures.content c.in_err-file_rule-in-Rule.ensures.error c.requires.parts)

pub loop-line-preserved-in-Nothing : goal.loop-line-preserved-in-Nothing
loop-line-preserved-in-Nothing c =
    let says = rw c.in-Nothing.is at c.in_ok-content.ensures.says in
    read_nothing _ _ _ _ _ _ _ _ _ c.loop-line.invariant c.in-Some.ensures.lines c.in-Some.ensures.shorter says

pub loop-line-preserved-in_ok-here-in-Heading : goal.loop-line-preserved-in_ok-here-in-Heading
loop-line-preserved-in_ok-here-in-Heading c =
    let says = rw c.in-Heading.is at c.in_ok-content.ensures.says in
    read_heading _ _ _ _ _ _ _ _ _ _ (section_of c.in-Heading.section) c.loop-line.invariant c.in-Some.ensures.lines c.in-Some.ensures.shorter says c.in_ok-here-in-Heading.ensures.modes

pub loop-line-preserved-in-Define : goal.loop-line-preserved-in-Define
loop-line-preserved-in-Define c =
    let says = rw c.in-Define.is at c.in_ok-content.ensures.says in
    read_part _ _ _ _ _ _ _ _ _ (part_of c.in-Define.field-0) c.loop-line.invariant c.in-Some.ensures.lines c.in-Some.ensures.shorter says

pub loop-line-preserved : goal.loop-line-preserved
loop-line-preserved c =
    let rule = c.in_ok-file_rule-in-Rule in
    let says = rw c.in-Rule.is at c.in_ok-content.ensures.says in
    read_rule _ _ _ _ _ _ _ _ _ _ (rule_of c.in-Rule.rule) rule.field-0 c.loop-line.invariant c.in-Some.ensures.lines c.in-Some.ensures.shorter says _ _ c.deref.ensures.value c.in_ok-content.ensures.content
    rule.ensures.rule rule.ensures.known rule.ensures.line rule.ensures.column rule.ensures.within c.in_ok-push-in-Rule.ensures.items
