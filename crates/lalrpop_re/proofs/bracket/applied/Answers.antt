use Rattle.std.proofs.Common.{◌⊎◌}
use Rattle.std.proofs.lemmas.Result.{IfOk-weaker}
use Rattle.lalrpop_hir.specs.Range.{Covered}
use Rattle.lalrpop_hir.specs.Runs.{IsCanon}
use Rattle.lalrpop_re.specs.CharacterSet.{Set, HasRuns}
use Rattle.lalrpop_re.specs.Bracket.{apply}
use Rattle.lalrpop_re.specs.Internal.Views.{operator_view}
use Rattle.lalrpop_re.proofs.SetLaws.{HasRuns-xor}
use Rattle.lalrpop_re.proofs.bracket.applied.Goals as goal

pub returns-in-SymmetricDifference : goal.returns-in-SymmetricDifference
returns-in-SymmetricDifference c =
    let xs = c.args.left.now in
    let ys = c.args.right.now in
    IfOk-weaker c.symmetric_difference.result (λ r. IsCanon (λ k. (Covered xs k × ¬ Covered ys k) ⊎ (Covered ys k × ¬ Covered xs k)) r)
    (λ r. (s t : Set) → HasRuns xs s → HasRuns ys t → HasRuns r (apply (operator_view c.args.operator) s t))
    (λ r k s t m n. rw c.in-SymmetricDifference.is (HasRuns-xor xs ys r s t m n k)) c.symmetric_difference.ensures.runs
