-- cases: proofs/Cases/Winners.antt
-- Which trees of a list match a word, and which of them are the strongest.
use Rattle.std.specs.Prelude.{◌≡◌, ℕ, ◌<◌, ◌≤◌, List, Some, slice_get, slice_index}
use Rattle.lalrpop_hir.specs.Tree.{Tree}
use Rattle.lalrpop_hir.specs.Language.{Matches}

-- the tree with the index i matches the word
abbrev pub TreeMatches : List Tree → List ℕ → ℕ → Type 0
TreeMatches ts w i = (t : Tree) × ((slice_get ts i ≡ Some t) × Matches t w)

-- some tree matches the word
abbrev pub Matched : List Tree → List ℕ → Type 0
Matched ts w = (i : ℕ) × TreeMatches ts w i

-- tree i matches the word, and no tree that matches it has a greater precedence
abbrev pub IsStrongest : List Tree → List ℕ → List ℕ → ℕ → Type 0
IsStrongest ts ps w i = TreeMatches ts w i × ((j : ℕ) → TreeMatches ts w j → slice_index ps j ≤ slice_index ps i)

-- tree i is the only strongest tree
abbrev pub IsOnlyStrongest : List Tree → List ℕ → List ℕ → ℕ → Type 0
IsOnlyStrongest ts ps w i = IsStrongest ts ps w i × ((j : ℕ) → IsStrongest ts ps w j → j ≡ i)

-- i is the greatest index of the strongest trees
abbrev pub IsHighestStrongest : List Tree → List ℕ → List ℕ → ℕ → Type 0
IsHighestStrongest ts ps w i = IsStrongest ts ps w i × ((j : ℕ) → IsStrongest ts ps w j → j ≤ i)

-- two trees or more are the strongest
abbrev pub Ambiguous : List Tree → List ℕ → List ℕ → Type 0
Ambiguous ts ps w = (i j : ℕ) × ((j < i) × IsStrongest ts ps w i × IsStrongest ts ps w j)
