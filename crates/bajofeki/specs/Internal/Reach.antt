-- cases: proofs/Cases/Reach.antt
-- How much of a text the longest match at its front, or the fault there, depends on.
use Rattle.std.specs.Prelude.{◌≡◌, ◌≢◌, ℕ, ◌+◌, ◌<◌, ◌≤◌, ◌⊎◌, List, [], ◌++◌, length, take, drop}
use Rattle.std.specs.List.{All}
use Rattle.std.specs.Str.{chars, IsCharBoundary}
use Rattle.lalrpop_hir.specs.Tree.{Tree}
use Rattle.lalrpop_hir.specs.Prefix.{IsPrefix}
use Rattle.lalrpop_hir.specs.Winners.{Matched}
use Rattle.lalrpop_hir.specs.Longest.{IsMatch}

-- the texts are alike in their first n bytes; if one ends before, the other ends there too
abbrev pub AreAlike : ℕ → List ℕ → List ℕ → Type 0
AreAlike n text other = take n text ≡ take n other

-- no tree matches a longer word of characters that begins with this one
abbrev pub IsClosed : List Tree → List ℕ → Type 0
IsClosed ts w = (v : List ℕ) → All (λ c. c < 1114112) v → v ≢ [] → ¬ Matched ts (w ++ v)

-- the first n bytes settle what matches at the front of a text: its end was seen, or no tree matches more than the characters read
abbrev pub IsSettledBy : List Tree → List ℕ → ℕ → Type 0
IsSettledBy ts text n = (length text < n) ⊎ ((u : List ℕ) × (IsPrefix u text × (length u ≤ n) × IsClosed ts (chars u)))

-- the first n bytes settle that the slice at the front of a text is a fault: at each of its characters they settle what matches there; and
-- the end of the text was seen, or they hold a match right after the slice
pub record IsFaultSettledBy (ts : List Tree) (text slice : List ℕ) (n : ℕ) : Type 0 where
  pub each : (k : ℕ) → k < length slice → IsCharBoundary text k → (m : ℕ) × ((k + m ≤ n) × IsSettledBy ts (drop k text) m)
  pub ends : (length text < n) ⊎ ((p : List ℕ) × (IsMatch ts (drop (length slice) text) p × (length slice + length p ≤ n)))
