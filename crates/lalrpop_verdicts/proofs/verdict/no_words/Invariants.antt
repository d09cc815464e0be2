use Rattle.std.proofs.Common.{◌≡◌, ℕ, ◌-◌, ◌≤◌, length, Option, None, Some, Vec, Global, slice_get}
use Rattle.lalrpop_verdicts.proofs.verdict.no_words.Given as goal

abbrev pub invariant-fill : goal.invariant-fill
invariant-fill l = (length l.words.items ≤ l.count) × ((i : ℕ) (o : Option (Vec ℕ Global)) → slice_get l.words.items i ≡ Some o → o ≡ None)

abbrev pub decreases-fill : goal.decreases-fill
decreases-fill l = l.count - length l.words.items
