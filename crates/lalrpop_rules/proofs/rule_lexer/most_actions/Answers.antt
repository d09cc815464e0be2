use Rattle.std.proofs.Common.{arith, length, refl}
use Rattle.std.proofs.lemmas.Option.{slice_get_read}
use Rattle.lalrpop_rules.proofs.FirstCuts.{most_more}
use Rattle.lalrpop_rules.proofs.rule_lexer.most_actions.Goals as goal

pub loop-rule-preserved : goal.loop-rule-preserved
loop-rule-preserved c =
    most_more (λ k. k.actions.items) c.args.known.now c.loop-rule.rule-index c.loop-rule.most c.max-most.result c.rule-item.result
    (slice_get_read c.args.known.now (length c.args.known.now) c.loop-rule.rule-index c.rule-item.result refl c.loop-rule-test.true c.rule-item.is)
    c.loop-rule.invariant (omega (arith, c.max-most.ensures)) (omega (arith, c.max-most.ensures, c.len.ensures))
