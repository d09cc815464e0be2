-- What the functions that find the boundaries promise each other.
use Rattle.std.specs.Prelude.{◌≡◌, ℕ, ◌<◌, ◌≤◌, ◌⊎◌, ◌↔◌, List, slice_get, Some}
use Rattle.std.specs.List.{Contains}
use Rattle.lalrpop_hir.specs.Range.{Range}
use Rattle.lalrpop_build.specs.Internal.Alphabet.{IsEndOf}

-- each number is less than all later ones
abbrev pub AreRising : List ℕ → Type 0
AreRising vs = (j k u v : ℕ) → slice_get vs j ≡ Some u → slice_get vs k ≡ Some v → j < k → u < v

-- no range is empty
abbrev pub HoldOne : List Range → Type 0
HoldOne xs = (x : Range) → Contains xs x → x.start ≤ x.end

-- the second list has the members of the first, and this number
abbrev pub HasAlso : List ℕ → ℕ → List ℕ → Type 0
HasAlso old w new = (v : ℕ) → Contains new v ↔ (Contains old v ⊎ (v ≡ w))

-- the numbers at which the ranges begin or are over
abbrev pub AreEndsOf : List Range → List ℕ → Type 0
AreEndsOf xs boundaries = (v : ℕ) → Contains boundaries v ↔ ((x : Range) × (Contains xs x × IsEndOf x v))

-- the second list has the members of the first, and these ranges
abbrev pub HasAllOf : List Range → List Range → List Range → Type 0
HasAllOf old these new = (r : Range) → Contains new r ↔ (Contains old r ⊎ Contains these r)
