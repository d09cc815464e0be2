use Rattle.std.proofs.Common.{◌∙◌, refl, sym, arith}
use Rattle.std.proofs.lemmas.Bool.{false≢true}
use Rattle.lalrpop_rule_file.proofs.UsedParts.{in_no_rule, in_rule, no_rule_more}
use Rattle.lalrpop_rule_file.proofs.used_parts.stands_in_rule.Goals as goal
use Rattle.lalrpop_rule_file.proofs.used_parts.stands_in_rule.Goals.{else-part-rule-via-then-part-rule+else-stands_in, else-part-rule-via-else-part-rule}

pub returns-then-stands_in : goal.returns-then-stands_in
returns-then-stands_in c = (
  λ _. in_rule c.args.reference.now c.args.part c.loop-rule.rule-index c.args.rules.now c.rule-item.result c.loop-rule-test.true c.rule-item.is c.if-part-rule.true (c.stands_in.ensures.0 c.if-stands_in.true),
  λ _. refl,
)

pub loop-rule-preserved : goal.loop-rule-preserved
loop-rule-preserved c =
    no_rule_more c.args.reference.now c.args.part c.loop-rule.rule-index c.args.rules.now c.rule-item.result c.loop-rule-test.true c.rule-item.is c.loop-rule.invariant
    (λ known stands. elim c.else-part-rule.branch [
      | else-part-rule-via-then-part-rule+else-stands_in w ↦ false≢true (sym w.if-stands_in.false ∙ w.stands_in.ensures.1 stands)
      | else-part-rule-via-else-part-rule w ↦ omega (arith, known, w.if-part-rule.false)
    ])

pub returns : goal.returns
returns c = (
  λ e. absurd (false≢true e),
  λ stands. absurd (in_no_rule c.args.reference.now c.args.part c.loop-rule.rule-index c.args.rules.now c.loop-rule.invariant c.loop-rule-test.false stands),
)
