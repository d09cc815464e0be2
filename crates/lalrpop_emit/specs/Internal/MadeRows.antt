-- The rows of a table that is made from the classes of characters.
use Rattle.std.specs.Prelude.{◌≡◌, ℕ, ◌+◌, ◌*◌, ◌%◌, ◌<◌, ◌≤◌, List, [], ◌∷◌, ◌++◌, length, map, slice_get, slice_index, Option, Some, None}
use Rattle.lalrpop_dfa.specs.Dfa.{Row, step}
use Rattle.lalrpop_dfa.specs.declared.Kind.{Kind}
use Rattle.lalrpop_dfa.specs.declared.Kind.TheVariants.{Accepts, Reject, Neither}

abbrev pub kind_or_reject : Option Row → Kind
kind_or_reject None = Reject
kind_or_reject (Some r) = r.kind

-- the kind of a state
abbrev pub kind_at : List Row → ℕ → Kind
kind_at d p = kind_or_reject (slice_get d p)

-- the third of all rows in which a state of this kind has its own
abbrev pub third_of : Kind → ℕ
third_of Reject = 0
third_of Neither = 1
third_of (Accepts i) = 2

abbrev pub row_number : List Row → ℕ → ℕ
row_number d p = third_of (kind_at d p) * length d + p

abbrev pub pattern_of : Kind → ℕ
pattern_of (Accepts i) = i
pattern_of _ = 0

-- where the first characters of the classes lead from the state, and its pattern
abbrev pub row_cells : List Row → List ℕ → ℕ → List ℕ
row_cells d firsts p = map (λ c. row_number d (step d p c) * (length firsts + 1)) firsts ++ (pattern_of (kind_at d p) ∷ [])

-- `count` rows of one length, one after another
pub record AreRowsOf (row : ℕ → List ℕ) (width : ℕ) (cells : List ℕ) (count : ℕ) : Type 0 where
  pub size : length cells ≡ count * (width + 1)
  pub each : (j k : ℕ) → j < count → k ≤ width → slice_index cells (j * (width + 1) + k) ≡ slice_index (row j) k

-- the first rows: each third has one for each state
abbrev pub AreRows : List Row → List ℕ → List ℕ → ℕ → Type 0
AreRows d firsts cells count = AreRowsOf (λ j. row_cells d firsts (j % length d)) (length firsts) cells count
