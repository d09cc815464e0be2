-- cases: proofs/Cases/Longest.antt
-- The longest nonempty prefix of a text that some tree matches.
use Rattle.std.specs.Prelude.{◌≢◌, ℕ, ◌≤◌, List, [], length, Option, Some, None}
use Rattle.std.specs.Str.{chars}
use Rattle.lalrpop_hir.specs.Tree.{Tree}
use Rattle.lalrpop_hir.specs.Prefix.{IsPrefix}
use Rattle.lalrpop_hir.specs.Winners.{Matched, IsHighestStrongest}

-- a nonempty prefix of the text whose word some tree matches
abbrev pub IsMatch : List Tree → List ℕ → List ℕ → Type 0
IsMatch ts text p = IsPrefix p text × (p ≢ []) × Matched ts (chars p)

-- the longest of these prefixes, with the greatest index of its strongest trees; None if there is no such prefix
abbrev pub IsLongest : List Tree → List ℕ → List ℕ → Option (ℕ × List ℕ) → Type 0
IsLongest ts ps text None = (p : List ℕ) → ¬ IsMatch ts text p
IsLongest ts ps text (Some m) =
    IsMatch ts text m.1 × ((p : List ℕ) → IsMatch ts text p → length p ≤ length m.1) × IsHighestStrongest ts ps (chars m.1) m.0
