use Rattle.std.proofs.Common.{◌++◌, ◌∷◌, [], take, sym, ap, subst, ◌∙◌}
use Rattle.std.proofs.lemmas.List.{take_all, take_more}
use Rattle.std.proofs.lemmas.Result.{IfOk-weaker}
use Rattle.lalrpop_hir.specs.Range.{Covered}
use Rattle.lalrpop_hir.specs.Runs.{IsCanon}
use Rattle.lalrpop_re.specs.CharacterSet.{Set, fold, HasRuns}
use Rattle.lalrpop_re.proofs.FoldLaws.{HasFolded, one_folded, all_folded}
use Rattle.lalrpop_re.proofs.folding.fold.Goals as goal

pub loop-range-preserved : goal.loop-range-preserved
loop-range-preserved c =
    let rs = c.ranges-range-items.result.now in
    let i = c.loop-range.range-index in
    let r = c.range-item.result in
    let more = take_more rs i r c.loop-range-test.true ∙ ap (λ x. take i rs ++ x ∷ []) (sym c.range-item.is) in
    subst (λ l. HasFolded c.args.class.now l c.push_partners.new.ranges.items) (sym more)
    (one_folded c.args.class.now (take i rs) c.loop-range.ranges.items c.push_partners.new.ranges.items r c.loop-range.invariant c.in_ok-push_partners.ensures)

pub returns : goal.returns
returns c =
    let class = c.args.class.now in
    let rs = c.loop-range.ranges.items in
    let all = take_all c.loop-range.range-index c.ranges-range-items.result.now c.loop-range-test.false ∙ c.ranges-range-items.ensures.value in
    let folded : HasFolded class class rs = subst (λ l. HasFolded class l rs) all c.loop-range.invariant in
    record { runs = IfOk-weaker c.new.result (λ r. IsCanon (Covered rs) r) (λ r. (s : Set) → HasRuns class s → HasRuns r (fold s)) (λ r k. all_folded class rs r folded k) c.new.ensures.runs }
