use Rattle.std.proofs.Common.{◌∙◌, ℕ, List, ap}
use Rattle.lalrpop_hir.specs.Range.{Range}
use Rattle.lalrpop_verdicts.specs.Internal.Targets.{with_new}
use Rattle.lalrpop_verdicts.proofs.FirstPlaces.{left_of, none_found, test_turn}
use Rattle.lalrpop_verdicts.proofs.picture.targets_of.Goals as goal

pub loop-target-init : goal.loop-target-init
loop-target-init c = ap (λ (u : List ℕ). left_of u c.args.tests.now c.args.other) c.new-found.ensures.items ∙ none_found c.args.tests.now c.args.other

pub loop-target-preserved : goal.loop-target-preserved
loop-target-preserved c =
    let l = c.loop-target in
    let t = c.loop-target-item in
    let number = c.index.ensures.value ∙ ap (λ (u : Range × ℕ). u.1) t.is in
    test_turn c.args.tests.now c.args.other l.target-index t.result l.found.items c.push_new.new.numbers.items _ c.loop-target-test.true
    (c.in_ok-push_new.ensures ∙ ap (λ (q : ℕ). with_new l.found.items q) number) l.invariant
