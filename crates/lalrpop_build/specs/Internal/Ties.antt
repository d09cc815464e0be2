-- Clashes that are found set by set.
use Rattle.std.specs.Prelude.{◌≡◌, ℕ, ◌<◌, ◌≤◌, ◌⊎◌, ◌↔◌, List, [], ◌∷◌, ◌++◌, length, slice_get, slice_index, Some}
use Rattle.std.specs.List.{Contains}
use Rattle.std.specs.BTreeSet.{BTreeSet}
use Rattle.lalrpop_hir.specs.Clashes.{Entry, AreInOrder}

-- some entry has this pair
abbrev pub HasPair : List Entry → ℕ → ℕ → Type 0
HasPair cs i j = (c : Entry) × (Contains cs c × (c.match0 ≡ i) × (c.match1 ≡ j))

-- the set has exactly the pairs of the entries
abbrev pub ArePairsOf : BTreeSet (ℕ × ℕ) → List Entry → Type 0
ArePairsOf pairs cs = (i j : ℕ) → Contains pairs.keys (i, j) ↔ HasPair cs i j

-- the entry was added last, unless its pair had one
abbrev pub IsAddedOnce : List Entry → Entry → List Entry → Type 0
IsAddedOnce cs c cs2 =
    (HasPair cs c.match0 c.match1 × (cs2 ≡ cs)) ⊎ ((¬ HasPair cs c.match0 c.match1) × (cs2 ≡ cs ++ c ∷ []))

-- each number is greater than those at earlier places
abbrev pub AreAscending : List ℕ → Type 0
AreAscending is = (p q i j : ℕ) → q < p → slice_get is p ≡ Some i → slice_get is q ≡ Some j → j < i

-- places p and q were reached, when pairs of places are visited from the last one down to u and v
abbrev pub IsReached : ℕ → ℕ → ℕ → ℕ → Type 0
IsReached u v p q = (u < p) ⊎ ((p ≡ u) × (v ≤ q))

-- each of the first n places has its own number as its precedence
abbrev pub AreOwn : ℕ → List ℕ → Type 0
AreOwn n ps = (length ps ≡ n) × ((i : ℕ) → i < n → slice_index ps i ≡ i)

-- after the entries cs come those of the pairs of strongest trees that were reached, in order, each with the word w, without
-- the pairs that cs has
pub record AreTiesTo (strongest w : List ℕ) (cs es : List Entry) (u v : ℕ) : Type 0 where
  pub each : (c : Entry) → Contains es c → (c.word ≡ w)
      × ((p q : ℕ) × ((q < p) × (slice_get strongest p ≡ Some c.match0) × (slice_get strongest q ≡ Some c.match1) × IsReached u v p q))
  pub fresh : (c : Entry) → Contains es c → ¬ HasPair cs c.match0 c.match1
  pub all : (p q i j : ℕ) → q < p → slice_get strongest p ≡ Some i → slice_get strongest q ≡ Some j → IsReached u v p q → HasPair (cs ++ es) i j
  pub in_order : AreInOrder es

-- such entries were added
abbrev pub HasTiesTo : List ℕ → List ℕ → List Entry → List Entry → ℕ → ℕ → Type 0
HasTiesTo strongest w cs cs2 u v = (es : List Entry) × ((cs2 ≡ cs ++ es) × AreTiesTo strongest w cs es u v)
