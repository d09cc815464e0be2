use Rattle.bajofeki_rules.proofs.MarkedModes.{rule_aside, rule_on}
use Rattle.bajofeki_rules.proofs.entered.mark_round.Goals as goal
use Rattle.bajofeki_rules.proofs.entered.mark_round.Goals.{then-is_one_marked, else-is_one_marked}

pub loop-rule-preserved : goal.loop-rule-preserved
loop-rule-preserved c =
    let rs = c.args.rules.now in
    let k = c.loop-rule.rule-index in
    elim c.if-is_one_marked.branch [
      | then-is_one_marked w ↦
          rw (w.marks-is, w.is_any-is) (rule_on rs k _ _ _ _ _ _ _ c.loop-rule-test.true c.rule-item.is c.loop-rule.invariant c.is_one_marked.ensures w.if-is_one_marked.true w.mark_targets-is_any.ensures)
      | else-is_one_marked w ↦
          rw (w.marks-is, w.is_any-is) (rule_aside rs k _ _ _ _ _ c.loop-rule-test.true c.rule-item.is c.loop-rule.invariant c.is_one_marked.ensures w.if-is_one_marked.false)
    ]
