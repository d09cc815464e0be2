use Rattle.std.proofs.Common.{◌≡◌, ℕ, length}
use Rattle.std.specs.Prelude.{Some, slice_get}
use Rattle.lalrpop_review.specs.Review.{IsModeReview}
use Rattle.lalrpop_review.specs.declared.mode.ModeReview.{ModeReview}
use Rattle.lalrpop_review.proofs.modes.review.Given as goal

-- the modes before this one have their reviews
abbrev pub invariant-loop-mode : goal.invariant-loop-mode
invariant-loop-mode l =
    (length l.modes.items ≡ l.mode)
    × ((m : ℕ) (y : ModeReview) → slice_get l.modes.items m ≡ Some y → IsModeReview l.lexer m y)
