-- cases: proofs/Cases/Runs.antt
-- Sets of values, and the lists of maximal runs that classes keep.
use Rattle.std.specs.Prelude.{ℕ, ◌+◌, ◌<◌, ◌≤◌, ◌⊎◌, ◌↔◌, List, [], ◌∷◌, if◌then◌else◌, eqb}
use Rattle.lalrpop_hir.specs.Range.{Range, Covered}

-- the value lies in either list, in both, in the first alone, in exactly one of them
abbrev pub InEither : List Range → List Range → ℕ → Type 0
InEither rs ss c = Covered rs c ⊎ Covered ss c

abbrev pub InBoth : List Range → List Range → ℕ → Type 0
InBoth rs ss c = Covered rs c × Covered ss c

abbrev pub InFirstAlone : List Range → List Range → ℕ → Type 0
InFirstAlone rs ss c = Covered rs c × ¬ Covered ss c

abbrev pub InJustOne : List Range → List Range → ℕ → Type 0
InJustOne rs ss c = InFirstAlone rs ss c ⊎ InFirstAlone ss rs c

-- a scalar value: a code value that is not a surrogate
abbrev pub IsScalar : ℕ → Type 0
IsScalar c = (c ≤ 55295) ⊎ ((57344 ≤ c) × (c ≤ 1114111))

-- a value of a byte
abbrev pub IsByte : ℕ → Type 0
IsByte c = c ≤ 255

-- the scalar value after c, where U+E000 follows U+D7FF
abbrev pub next_scalar : ℕ → ℕ
next_scalar c = if eqb c 55295 then 57344 else c + 1

-- the byte after c
abbrev pub next_byte : ℕ → ℕ
next_byte c = c + 1

-- the ranges are nonempty and ascend, and any two neighbours leave out a value between them,
-- where `next` gives the value after a value
abbrev pub AreApart : (ℕ → ℕ) → List Range → Type 0
AreApart next [] = Unit {0}
AreApart next (r ∷ []) = r.start ≤ r.end
AreApart next (r ∷ s ∷ rs) = (r.start ≤ r.end) × (next r.end < s.start) × AreApart next (s ∷ rs)

-- all ends are members of the set
abbrev pub HaveEndsIn : (ℕ → Type 0) → List Range → Type 0
HaveEndsIn S [] = Unit {0}
HaveEndsIn S (r ∷ rs) = S r.start × S r.end × HaveEndsIn S rs

-- the invariant of a class of characters
abbrev pub IsCanonical : List Range → Type 0
IsCanonical rs = AreApart next_scalar rs × HaveEndsIn IsScalar rs

-- the ascending maximal runs of a set of scalar values
abbrev pub IsCanon : (ℕ → Type 0) → List Range → Type 0
IsCanon S rs = IsCanonical rs × ((c : ℕ) → IsScalar c → S c ↔ Covered rs c)

-- the invariant of a class of bytes
abbrev pub AreByteRuns : List Range → Type 0
AreByteRuns rs = AreApart next_byte rs × HaveEndsIn IsByte rs

-- the ascending maximal runs of a set of bytes
abbrev pub IsByteCanon : (ℕ → Type 0) → List Range → Type 0
IsByteCanon S rs = AreByteRuns rs × ((c : ℕ) → IsByte c → S c ↔ Covered rs c)
