use Rattle.std.proofs.lemmas.Result.{IfOk-weaker}
use Rattle.lalrpop_hir.specs.Range.{Covered}
use Rattle.lalrpop_hir.specs.Runs.{IsCanon}
use Rattle.lalrpop_re.specs.CharacterSet.{Set, complement, HasRuns}
use Rattle.lalrpop_re.proofs.SetLaws.{HasRuns-complement}
use Rattle.lalrpop_re.proofs.bracket.complemented.Goals as goal

pub returns : goal.returns
returns c =
    let rs = c.args.class.now in
    IfOk-weaker c.complement.result (λ r. IsCanon (λ k. ¬ Covered rs k) r) (λ r. (s : Set) → HasRuns rs s → HasRuns r (complement s))
    (λ r m s k. HasRuns-complement rs r s k m) c.complement.ensures.runs
