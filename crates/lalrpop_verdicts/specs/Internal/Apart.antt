-- Pairs of states whose trees have different labels.
use Rattle.std.specs.Prelude.{◌≢◌, ℕ, List, slice_get}
use Rattle.lalrpop_dfa.specs.Dfa.{Row}
use Rattle.lalrpop_verdicts.specs.Answers.{accepted_at}
use Rattle.lalrpop_verdicts.specs.Differences.{label_of}
use Rattle.lalrpop_verdicts.specs.declared.pairs.Pair.{Pair}

-- the trees that the two states accept have different labels
abbrev pub AreApart : List Row → List ℕ → List Row → List ℕ → Pair → Type 0
AreApart l ls r rs p = label_of ls (accepted_at (slice_get l p.left)) ≢ label_of rs (accepted_at (slice_get r p.right))
