use Rattle.std.proofs.Common.{◌≡◌, ◌++◌, ◌∙◌, List, length, map, take, rules, ap, sym, subst}
use Rattle.std.specs.Result.{OnOk}
use Rattle.std.proofs.lemmas.List.{take_all}
use Rattle.lalrpop_dfa.specs.Ascending.{Item}
use Rattle.lalrpop_build.specs.Internal.Taken.{targets_of_run}
use Rattle.lalrpop_build.specs.declared.transitions.Transition.{Transition}
use Rattle.lalrpop_build.proofs.Moving.{bare_run, edges_run}
use Rattle.lalrpop_build.proofs.WorklistSteps.{nil_from}
use Rattle.lalrpop_build.proofs.moves.push_targets.Goals as goal

pub returns-then-is_empty : goal.returns-then-is_empty
returns-then-is_empty c =
    let empty : length c.args.run.now ≡ 0 = search rules in
    let led = bare_run c.args.nfas.now c.args.item c.nfa.result.now c.nfa.ensures ∙ ap (targets_of_run c.args.nfas.now c.args.item) (sym (nil_from c.args.run.now empty)) in
    subst (λ (zs : List Item). OnOk c.push_default_targets.result (c.push_default_targets.new.targets.items ≡ c.args.targets.now.items ++ zs)) led c.push_default_targets.ensures

pub returns : goal.returns
returns c =
    let some : length c.args.run.now ≡ 0 → ⊥ = λ e. search rules in
    let all : take c.loop-transition.transition-index c.args.run.now ≡ c.args.run.now = take_all c.loop-transition.transition-index c.args.run.now c.loop-transition-test.false in
    c.loop-transition.invariant ∙ ap (λ (zs : List Item). c.args.targets.now.items ++ zs) (ap (map (λ (e : Transition). let z : Item = (c.args.item.0, e.to) in z)) all ∙ edges_run c.args.nfas.now c.args.item c.args.run.now some)
