-- The reviews of modes, one after another.
use Rattle.std.proofs.Common.{◌≡◌, ℕ, ◌+◌, inl, inr, List, [], ◌∷◌, ◌++◌, length, length-append, sym, ap, ◌∙◌, subst, arith}
use Rattle.std.specs.Prelude.{Some, slice_get}
use Rattle.lalrpop_hir.proofs.Pushed.{pushed_cases}
use Rattle.lalrpop_rules.specs.Modes.{ModeRules}
use Rattle.lalrpop_review.specs.Review.{IsModeReview}
use Rattle.lalrpop_review.specs.declared.mode.ModeReview.{ModeReview}

-- each is the review of its mode
abbrev pub AreReviews : ModeRules → List ModeReview → Type 0
AreReviews r ys = (m : ℕ) (y : ModeReview) → slice_get ys m ≡ Some y → IsModeReview r m y

-- one mode more
pub reviews_more : (r : ModeRules) (m : ℕ) (old new : List ModeReview) (x : ModeReview) → length old ≡ m → AreReviews r old → IsModeReview r m x → new ≡ old ++ x ∷ []
    → (length new ≡ m + 1) × AreReviews r new
reviews_more r m old new x count are is pushed = (omega (arith, count, ap length pushed, length-append old (x ∷ [])), each)
  where
    each : AreReviews r new
    each k y at = elim (pushed_cases old x k y (ap (λ ys. slice_get ys k) (sym pushed) ∙ at)) [
      | inl before ↦ are k y before
      | inr last ↦ subst (IsModeReview r k) (sym last.1) (subst (λ j. IsModeReview r j x) (sym (last.0 ∙ count)) is)
    ]
