use Rattle.std.proofs.Common.{◌≡◌, ◌<◌, ap, reverse, sym, subst}
use Rattle.bajofeki_rules.specs.Stack.{Stack, act_all}
use Rattle.lalrpop_rules.specs.Modes.{EachMode}
use Rattle.lalrpop_rules.specs.Internal.Cutting.{Cutting}
use Rattle.lalrpop_rules.proofs.ModeRuns.{act-within}
use Rattle.lalrpop_rules.proofs.mode_stack.ModeStack.cut_piece.Goals as goal

pub returns-in-Some-clause-there : goal.returns-in-Some-clause-there
returns-in-Some-clause-there c before =
    let i = c.self.inside in
    let modes = c.args.cutter.now.rules.modes in
    let old : Stack = record { mode = i.top; below = reverse i.below.items } in
    let new : Stack = record { mode = c.act_all_within.new.top; below = reverse c.act_all_within.new.below.items } in
    let acted : new ≡ act_all c.actions-actions.result.now old = rw c.in_ok-reserve.ensures.items at c.act_all_within.ensures.acted in
    let same : c.next_piece.new.self.rules.modes ≡ modes = ap (λ (s : Cutting). s.rules.modes) c.in-Some.ensures.cuts.goes_on in
    act-within modes c.actions-actions.result.now old new acted (λ m leads. subst (λ n. m < n) same (c.actions-actions.ensures.within m leads))
    (subst (λ (s : Stack). EachMode (λ m. m < modes) s) (sym c.self.view_is) before)
