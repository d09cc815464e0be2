use Rattle.std.proofs.Common.{[], refl, sym, ap, ◌∙◌, subst}
use Rattle.std.proofs.lemmas.Option.{same_Some, slice_get_read}
use Rattle.lalrpop_hir.specs.Language.{Matches}
use Rattle.lalrpop_hir.specs.Winners.{TreeMatches}
use Rattle.lalrpop_review.proofs.Those.{next_found, next_left}
use Rattle.lalrpop_review.proofs.empty.empty_rules.Goals as goal
use Rattle.lalrpop_review.proofs.empty.empty_rules.Goals.{then-matches_empty+in_ok-push, else-matches_empty}

pub loop-index-preserved : goal.loop-index-preserved
loop-index-preserved c =
    let at = slice_get_read c.args.regexs.now _ c.loop-index.index c.index-regexs-index.result refl c.loop-index-test.true c.index-regexs-index.is in
    elim c.if-matches_empty.branch [
      | then-matches_empty+in_ok-push w ↦
          next_found c.loop-index.index (TreeMatches c.args.regexs.now []) c.loop-index.found.items _ w.new.result c.loop-index.invariant
          (c.index-regexs-index.result, (at, w.if-matches_empty.ensures.empty.0 refl)) w.new.ensures.value (ap (λ v. v.items) w.found-is ∙ w.in_ok-push.ensures.items)
      | else-matches_empty w ↦
          next_left c.loop-index.index (TreeMatches c.args.regexs.now []) c.loop-index.found.items _ c.loop-index.invariant
          (λ (t, (there, m)). cc (w.if-matches_empty.ensures.empty.1 (subst (λ u. Matches u []) (same_Some _ _ (sym there ∙ at)) m))) (ap (λ v. v.items) w.found-is)
    ]
