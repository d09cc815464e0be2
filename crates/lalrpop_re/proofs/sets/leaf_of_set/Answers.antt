use Rattle.std.proofs.Common.{sym, subst}
use Rattle.std.proofs.lemmas.Result.{IfOk-weaker}
use Rattle.lalrpop_hir.specs.Range.{Covered}
use Rattle.lalrpop_hir.specs.Runs.{IsCanon}
use Rattle.lalrpop_re.specs.CharacterSet.{Set, HasRuns}
use Rattle.lalrpop_re.specs.Bracket.{leaf, leaf_or_complement}
use Rattle.lalrpop_re.proofs.SetLaws.{HasRuns-complement, HasRuns-folded, HasRuns-unfolded}
use Rattle.lalrpop_re.proofs.sets.leaf_of_set.Goals as goal
use Rattle.lalrpop_re.proofs.sets.leaf_of_set.Goals.{then-flags+in_ok-leaf, else-flags}

pub returns-then-negated : goal.returns-then-negated
returns-then-negated c =
    let f = c.args.flags in
    let rs = c.if-flags.leaf in
    let runs : (s : Set) → HasRuns c.args.class s → HasRuns rs (leaf f s) = λ s k. elim c.if-flags.branch [
      | then-flags+in_ok-leaf w ↦ rw w.leaf-is (HasRuns-folded f w.in_ok-leaf.leaf s w.if-flags.true (w.in_ok-leaf.ensures.runs s k))
      | else-flags w ↦ rw w.leaf-is (HasRuns-unfolded f c.args.class s w.if-flags.false k)
    ] in
    record {
      runs = IfOk-weaker c.complement.result (λ r. IsCanon (λ k. ¬ Covered rs k) r) (λ r. (s : Set) → HasRuns c.args.class s → HasRuns r (leaf_or_complement f s c.args.negated))
          (λ r m s k. subst (λ b. HasRuns r (leaf_or_complement f s b)) (sym c.if-negated.true) (HasRuns-complement rs r (leaf f s) (runs s k) m)) c.complement.ensures.runs;
    }

pub returns : goal.returns
returns c =
    let f = c.args.flags in
    let rs = c.if-flags.leaf in
    let runs : (s : Set) → HasRuns c.args.class s → HasRuns rs (leaf f s) = λ s k. elim c.if-flags.branch [
      | then-flags+in_ok-leaf w ↦ rw w.leaf-is (HasRuns-folded f w.in_ok-leaf.leaf s w.if-flags.true (w.in_ok-leaf.ensures.runs s k))
      | else-flags w ↦ rw w.leaf-is (HasRuns-unfolded f c.args.class s w.if-flags.false k)
    ] in
    record { runs = λ s k. subst (λ b. HasRuns rs (leaf_or_complement f s b)) (sym c.if-negated.false) (runs s k) }
