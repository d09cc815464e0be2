-- cases: proofs/Cases/Partition.antt
-- The partition of a set of ranges.
use Rattle.std.specs.Prelude.{◌≡◌, ℕ, ◌<◌, ◌≤◌, ◌↔◌, List, [], ◌∷◌, Bool, leb}
use Rattle.std.specs.List.{Contains}
use Rattle.lalrpop_hir.specs.Range.{Range, Covers}

-- a set of ranges
abbrev pub Ranges : Type 1
Ranges = Range → Type 0

-- the range contains some value
abbrev pub has_value : Range → Bool
has_value r = leb r.start r.end

-- some range of the set contains c
abbrev pub IsCovered : Ranges → ℕ → Type 0
IsCovered R c = (r : Range) × (R r × Covers r c)

-- the same ranges of the set contain c and d
abbrev pub Alike : Ranges → ℕ → ℕ → Type 0
Alike R c d = (r : Range) → R r → Covers r c ↔ Covers r d

-- an interval of covered values, all in the same ranges
pub record IsUniform (R : Ranges) (x : Range) : Type 0 where
  pub holds_one : x.start ≤ x.end
  pub covered : (c : ℕ) → Covers x c → IsCovered R c
  pub constant : (c d : ℕ) → Covers x c → Covers x d → Alike R c d

-- a maximal interval of this kind: no other contains it
pub record IsBlock (R : Ranges) (x : Range) : Type 0 where
  pub uniform : IsUniform R x
  pub maximal : (y : Range) → IsUniform R y → y.start ≤ x.start → x.end ≤ y.end → y ≡ x

-- each range ends before the next begins
abbrev pub AreAscending : List Range → Type 0
AreAscending [] = Unit {0}
AreAscending (x ∷ []) = Unit {0}
AreAscending (x ∷ y ∷ ys) = (x.end < y.start) × AreAscending (y ∷ ys)

-- all maximal intervals, in ascending order
pub record IsPartition (R : Ranges) (xs : List Range) : Type 0 where
  pub ascending : AreAscending xs
  pub are_blocks : (x : Range) → Contains xs x → IsBlock R x
  pub all_blocks : (x : Range) → IsBlock R x → Contains xs x
