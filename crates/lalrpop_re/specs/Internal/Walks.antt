-- Walks along edges that are labelled with sets of words.
use Rattle.std.specs.Prelude.{◌≡◌, ◌≢◌, ℕ, zero, suc, ◌+◌, ◌<◌, ◌⊎◌, ◌↔◌, List, [], All}
use Rattle.lalrpop_hir.specs.Language.{Words, Then, Power}
use Rattle.lalrpop_hir.specs.Runs.{IsScalar}

-- the words that lead from a state to a state by one edge
abbrev pub Graph : Type 1
Graph = ℕ → ℕ → Words

-- any number of words of the set, one after another
abbrev pub Star : Words → Words
Star L w = (k : ℕ) × Power k L w

-- k edges, one after another, lead from p to the end, and their words are w
abbrev pub Steps : Graph → ℕ → ℕ → ℕ → Words
Steps M end zero p w = (p ≡ end) × (w ≡ [])
Steps M end (suc k) p w = (q : ℕ) × Then (M p q) (Steps M end k q) w

-- some number of edges
abbrev pub Walk : Graph → ℕ → ℕ → Words
Walk M end p w = (k : ℕ) × Steps M end k p w

-- N has the words of M, and those of L
abbrev pub Gains : Graph → Graph → Graph → Type 0
Gains M L N = (p q : ℕ) (w : List ℕ) → N p q w ↔ (M p q w ⊎ L p q w)

-- a word of E into state k, turns there, and a word out of it
abbrev pub Past : Graph → Graph → ℕ → Graph
Past E M k p q = Then (E p k) (Then (Star (M k k)) (M k q))

-- N has the words of E that don't lead from k or to k, and those over k, where E leads into it
abbrev pub IsWithoutAfter : Graph → Graph → ℕ → Graph → Type 0
IsWithoutAfter E M k N = (p q : ℕ) (w : List ℕ) → N p q w ↔ ((p ≢ k) × (q ≢ k) × (E p q w ⊎ Past E M k p q w))

-- N is M without state k: what led over k leads past it
abbrev pub IsWithout : Graph → ℕ → Graph → Type 0
IsWithout M = IsWithoutAfter M M

-- N has no words that M hasn't, and all words of characters that M has
abbrev pub Reads : Graph → Graph → Type 0
Reads M N = (p q : ℕ) (w : List ℕ) → (N p q w → M p q w) × (All IsScalar w → M p q w → N p q w)

-- all lead from state n + 1 or a state below n, to state n or a state below n
abbrev pub IsWithin : ℕ → Graph → Type 0
IsWithin n M = (p q : ℕ) (w : List ℕ) → M p q w → ((p ≡ n + 1) ⊎ (p < n)) × ((q ≡ n) ⊎ (q < n))
