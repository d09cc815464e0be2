use Rattle.std.proofs.Common.{◌≡◌, ℕ, ◌<◌, length, map}
use Rattle.std.specs.Prelude.{Some, slice_get}
use Rattle.lalrpop_review.specs.Apart.{told}
use Rattle.lalrpop_review.specs.Internal.Meanings.{meant}
use Rattle.lalrpop_review.proofs.apart.meanings.Given as goal

abbrev pub invariant-loop-index : goal.invariant-loop-index
invariant-loop-index l =
    (length l.all.items ≡ l.index) × ((i : ℕ) → i < l.index → slice_get (map meant l.all.items) i ≡ told l.lexer (Some i))
