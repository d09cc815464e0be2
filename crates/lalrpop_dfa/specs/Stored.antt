-- States whose test edges are in one list of all test edges.
use Rattle.std.specs.Prelude.{◌≡◌, ◌≢◌, ℕ, ◌+◌, ◌<◌, ◌≤◌, List, length, map, take, drop, slice_get, Option, Some}
use Rattle.lalrpop_hir.specs.Range.{Range}
use Rattle.lalrpop_dfa.specs.Dfa.{Row, StoredState, step}
use Rattle.lalrpop_dfa.specs.declared.Kind.TheVariants.{Reject}

-- the state with its test edges
abbrev pub row_of : List (Range × ℕ) → StoredState → Row
row_of edges s = record { kind = s.kind; tests = take s.count (drop s.first edges); other = s.other; items = s.items }

abbrev pub rows_of : List (Range × ℕ) → List StoredState → List Row
rows_of edges states = map (row_of edges) states

-- the list is long enough for the edges of each state
abbrev pub AreWithin : List (Range × ℕ) → List StoredState → Type 0
AreWithin edges states = (p : ℕ) (s : StoredState) → slice_get states p ≡ Some s → s.first + s.count ≤ length edges

-- where the values of ASCII lead from the state p
abbrev pub AreSteps : List Row → ℕ → List ℕ → Type 0
AreSteps d p targets = (c : ℕ) → c < 128 → slice_get targets c ≡ Some (step d p c)

-- the edges before the place end before the value
abbrev pub EndBefore : List (Range × ℕ) → ℕ → ℕ → Type 0
EndBefore ts place value = (k : ℕ) (t : Range × ℕ) → k < place → slice_get ts k ≡ Some t → t.0.end < value

-- each state has a place, and if it names one of the lists, that list says where the values of ASCII lead from the state
pub record AreListed (d : List Row) (places : List (Option ℕ)) (lists : List (List ℕ)) : Type 0 where
  pub same_length : length places ≡ length d
  pub each : (p k : ℕ) → slice_get places p ≡ Some (Some k) → (targets : List ℕ) × ((slice_get lists k ≡ Some targets) × AreSteps d p targets)

-- e is d, but the state p rejects
pub record IsRejecting (d : List Row) (p : ℕ) (e : List Row) : Type 0 where
  pub same_length : length e ≡ length d
  pub others : (q : ℕ) → q ≢ p → slice_get e q ≡ slice_get d q
  pub rejects : (r : Row) → slice_get d p ≡ Some r → slice_get e p ≡ Some (record r { kind = Reject })
