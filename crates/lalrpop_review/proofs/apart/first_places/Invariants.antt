use Rattle.std.proofs.Common.{◌≡◌, ℕ, length, map}
use Rattle.std.specs.Prelude.{Some, slice_get}
use Rattle.lalrpop_review.specs.Internal.Meanings.{IsFirst, meant}
use Rattle.lalrpop_review.proofs.apart.first_places.Given as goal

abbrev pub invariant-loop-place : goal.invariant-loop-place
invariant-loop-place l =
    (length l.places.items ≡ l.place) × ((i k : ℕ) → slice_get l.places.items i ≡ Some k → IsFirst (map meant l.all) i k)
