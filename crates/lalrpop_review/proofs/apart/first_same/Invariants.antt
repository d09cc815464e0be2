use Rattle.std.proofs.Common.{◌≢◌, ℕ, ◌<◌, map}
use Rattle.std.specs.Prelude.{slice_get}
use Rattle.lalrpop_review.specs.Internal.Meanings.{meant}
use Rattle.lalrpop_review.proofs.apart.first_same.Given as goal

abbrev pub invariant-loop-earlier : goal.invariant-loop-earlier
invariant-loop-earlier l = (j : ℕ) → j < l.earlier → slice_get (map meant l.all) j ≢ slice_get (map meant l.all) l.place
