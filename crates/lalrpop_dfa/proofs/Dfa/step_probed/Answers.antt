use Rattle.std.proofs.Common.{sym, ◌∙◌, subst, ap, ◌≡◌, ◌<◌, List, length, arith, get_or}
use Rattle.lalrpop_dfa.specs.Dfa.{step, Row}
use Rattle.lalrpop_dfa.specs.Counts.{HaveAtMost}
use Rattle.lalrpop_dfa.proofs.EdgeTargets.{step_within}
use Rattle.lalrpop_dfa.proofs.StepLists.{listed_step}
use Rattle.lalrpop_dfa.proofs.Dfa.step_probed.Goals as goal

pub returns-clause-probed : goal.returns-clause-probed
returns-clause-probed c = λ n d h l. c.step.ensures.probed n d (subst (λ (x : List Row). HaveAtMost x n) (sym c.self.view_is) h) l

pub returns-then-value-lt128-clause-leads : goal.returns-then-value-lt128-clause-leads
returns-then-value-lt128-clause-leads c =
    c.new.ensures.value
    ∙ rw (← c.self.view_is) (listed_step _ _ _ c.self.invariant.1 c.args.state c.args.value c.in-Some.place c.index.result c.index-2.result.now c.index-list.result.now (rw c.self.view_is c.requires) c.index.ensures.value c.index-2.ensures c.in-Some.is c.index-list.ensures c.if-value-lt128.true)

pub returns-then-value-lt128-clause-within : goal.returns-then-value-lt128-clause-within
returns-then-value-lt128-clause-within c =
    let is : get_or c.index-list.result.now c.args.value 0 ≡ step c.self.inside.rows c.args.state c.args.value = listed_step _ _ _ c.self.invariant.1 c.args.state c.args.value c.in-Some.place c.index.result c.index-2.result.now c.index-list.result.now (rw c.self.view_is c.requires) c.index.ensures.value c.index-2.ensures c.in-Some.is c.index-list.ensures c.if-value-lt128.true in
    let here : step c.self.inside.rows c.args.state c.args.value < length c.self.inside.rows = step_within c.self.inside.rows c.args.state c.args.value c.self.invariant.0 (rw c.self.view_is c.requires) in
    omega (arith, c.new.ensures.value, is, here, ap length c.self.view_is)
