-- Values by which a match runs on into the next one, and where to look for them.
use Rattle.std.specs.Prelude.{◌≡◌, ℕ, ◌+◌, ◌<◌, ◌⊎◌, List, slice_get, Some, IsSomeAnd, Bool}
use Rattle.lalrpop_hir.specs.Range.{Range}
use Rattle.lalrpop_dfa.specs.Dfa.{Row, step}
use Rattle.lalrpop_dfa.specs.Internal.Marks.{IsAcceptingAs, Marked}

-- the value leads from the state p to one that is marked as live, and from START to one that is marked as on the way
abbrev pub Fits : List Row → List Bool → List Bool → ℕ → ℕ → Type 0
Fits d live toward p c = Marked live (step d p c) × Marked toward (step d 0 c)

-- some value does
abbrev pub HasFitting : List Row → List Bool → List Bool → ℕ → Type 0
HasFitting d live toward p = (c : ℕ) × Fits d live toward p c

-- the other edge leads from the state to a marked one
abbrev pub OtherLeadsInto : List Row → List Bool → ℕ → Type 0
OtherLeadsInto d marks p = IsSomeAnd (slice_get d p) (λ r. Marked marks r.other)

-- the greatest values fit, which no test has
abbrev pub OthersFit : List Row → List Bool → List Bool → ℕ → Type 0
OthersFit d live toward p = OtherLeadsInto d live p × OtherLeadsInto d toward 0

-- the first value of the range, or the one after its last
abbrev pub IsBorder : Range → ℕ → Type 0
IsBorder r c = (c ≡ r.start) ⊎ (c ≡ r.end + 1)

-- a border of the range fits, which is a value of 32 bits
abbrev pub FitsAtBorder : List Row → List Bool → List Bool → ℕ → Range → Type 0
FitsAtBorder d live toward p r = (c : ℕ) × ((c < 4294967296) × (IsBorder r c × Fits d live toward p c))

-- no border of these tests fits, and each test ends at a value of 32 bits
abbrev pub NoBorderFits : List Row → List Bool → List Bool → ℕ → List (Range × ℕ) → Type 0
NoBorderFits d live toward p ts =
    (k : ℕ) (t : Range × ℕ) → slice_get ts k ≡ Some t → (t.0.end < 4294967296) × ¬ FitsAtBorder d live toward p t.0

-- the state is among those reached, it accepts the tree i, and some value fits
abbrev pub RunsOnFrom : List Row → List Bool → List Bool → List Bool → ℕ → ℕ → Type 0
RunsOnFrom d reached live toward i p = Marked reached p × (IsAcceptingAs d i p × HasFitting d live toward p)
