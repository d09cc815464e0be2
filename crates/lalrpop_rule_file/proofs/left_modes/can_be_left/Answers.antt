use Rattle.std.proofs.Common.{◌∙◌, refl, sym}
use Rattle.std.proofs.lemmas.Bool.{false≢true}
use Rattle.lalrpop_rule_file.specs.LeftModes.{LeadsOut}
use Rattle.lalrpop_rule_file.proofs.Elements.{none_at_all, none_more, one_here}
use Rattle.lalrpop_rule_file.proofs.left_modes.can_be_left.Goals as goal

pub returns-then-leads_out : goal.returns-then-leads_out
returns-then-leads_out c = (
  λ _. one_here (λ r. LeadsOut r c.args.mode) c.args.rules.now c.loop-rule.rule-index c.rule-item.result c.loop-rule-test.true c.rule-item.is (c.leads_out.ensures.0 c.if-leads_out.true),
  λ _. refl,
)

pub loop-rule-preserved : goal.loop-rule-preserved
loop-rule-preserved c =
    none_more (λ r. LeadsOut r c.args.mode) c.args.rules.now c.loop-rule.rule-index c.rule-item.result c.loop-rule-test.true c.rule-item.is c.loop-rule.invariant
    (λ is. false≢true (sym c.if-leads_out.false ∙ c.leads_out.ensures.1 is))

pub returns : goal.returns
returns c = (
  λ e. absurd (false≢true e),
  λ one. absurd (none_at_all (λ r. LeadsOut r c.args.mode) c.args.rules.now c.loop-rule.rule-index c.loop-rule.invariant c.loop-rule-test.false one),
)
