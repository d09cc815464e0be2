use Rattle.std.proofs.Common.{◌≡◌, true}
use Rattle.std.specs.Prelude.{Some, slice_get}
use Rattle.lalrpop_review.specs.Review.{AreThose}
use Rattle.lalrpop_review.proofs.look.marked.Given as goal

abbrev pub invariant-loop-index : goal.invariant-loop-index
invariant-loop-index l = AreThose l.index (λ i. slice_get l.flags i ≡ Some true) l.found.items
