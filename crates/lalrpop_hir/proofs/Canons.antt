-- The list of maximal runs of a set is unique.
use Rattle.std.proofs.Common.{◌≡◌, ℕ, ◌<◌, ◌≤◌, ◌⊎◌, inl, inr, List, [], ◌∷◌, true, refl, sym, ap, ◌∙◌, arith}
use Rattle.std.proofs.lemmas.Bool.{cases_lt}
use Rattle.std.proofs.Math.Utf8.{scalar, scalar_cases}
use Rattle.lalrpop_hir.specs.Range.{Range, Covers, Covered}
use Rattle.lalrpop_hir.specs.Runs.{IsScalar, IsByte, next_scalar, next_byte, AreApart, HaveEndsIn, IsCanon, IsByteCanon}

-- `next` goes up, and from a member below another one it goes to a member that is not past that
pub record Steps (next : ℕ → ℕ) (S : ℕ → Type 0) : Type 0 where
  pub above : (c : ℕ) → c < next c
  pub member : (c d : ℕ) → S c → S d → c < d → S (next c)
  pub reaches : (c d : ℕ) → S c → S d → c < d → next c ≤ d

scalar_above : (c : ℕ) → c < next_scalar c
scalar_above c = grind arith

scalar_member : (c d : ℕ) → IsScalar c → IsScalar d → c < d → IsScalar (next_scalar c)
scalar_member c d s u h = grind arith

scalar_reaches : (c d : ℕ) → IsScalar c → IsScalar d → c < d → next_scalar c ≤ d
scalar_reaches c d s u h = grind arith

pub scalar_steps : Steps next_scalar IsScalar
scalar_steps = record { above = scalar_above; member = scalar_member; reaches = scalar_reaches }

pub byte_steps : Steps next_byte IsByte
byte_steps = record { above = λ c. omega arith; member = λ c d s u h. omega arith; reaches = λ c d s u h. omega arith }

-- what std says of a character's code
pub IsScalar-from_char : (c : ℕ) → scalar c ≡ true → IsScalar c
IsScalar-from_char c h = elim (scalar_cases c h) [ inl a ↦ inl (omega arith) | inr b ↦ inr (b.0, omega (arith, b.1)) ]

-- the invariant of a class, where `next` gives the next value of S
abbrev pub AreKept : (ℕ → ℕ) → (ℕ → Type 0) → List Range → Type 0
AreKept next S rs = AreApart next rs × HaveEndsIn S rs

pub head-holds : (next : ℕ → ℕ) (y : Range) (ys : List Range) → AreApart next (y ∷ ys) → y.start ≤ y.end
head-holds next y [] a = a
head-holds next y (z ∷ ys) a = a.0

pub tail-apart : (next : ℕ → ℕ) (y : Range) (ys : List Range) → AreApart next (y ∷ ys) → AreApart next ys
tail-apart next y [] a = tt
tail-apart next y (z ∷ ys) a = a.2

behind : (next : ℕ → ℕ) (S : ℕ → Type 0) → Steps next S → (x : Range) (ys : List Range) → AreApart next (x ∷ ys) → (c : ℕ) → Covered ys c → next x.end < c
behind next S steps x [] a c h = absurd h
behind next S steps x (y ∷ ys) a c (inl h) = omega (arith, a.1, h.0)
behind next S steps x (y ∷ ys) a c (inr h) =
    omega (arith, a.1, head-holds next y ys a.2, steps.above y.end, behind next S steps y ys a.2 c h)

pub from_start : (next : ℕ → ℕ) (S : ℕ → Type 0) → Steps next S → (x : Range) (ys : List Range) → AreApart next (x ∷ ys) → (c : ℕ) → Covered (x ∷ ys) c → x.start ≤ c
from_start next S steps x ys a c (inl h) = h.0
from_start next S steps x ys a c (inr h) =
    omega (arith, head-holds next x ys a, steps.above x.end, behind next S steps x ys a c h)

pub range-same : (x y : Range) → x.start ≡ y.start → x.end ≡ y.end → x ≡ y
range-same x y s e = ap (λ a. let r : Range = record { start = a; end = x.end } in r) s ∙ ap (λ b. let r : Range = record { start = y.start; end = b } in r) e

-- the second list covers each member of S that the first one covers
abbrev IsWithin : (ℕ → Type 0) → List Range → List Range → Type 0
IsWithin S rs ss = (c : ℕ) → S c → Covered rs c → Covered ss c

-- no list of runs of the same values goes past the end of the first range
end-le : (next : ℕ → ℕ) (S : ℕ → Type 0) → Steps next S → (r : Range) (rs : List Range) (s : Range) (ss : List Range) → AreKept next S (r ∷ rs) → AreKept next S (s ∷ ss) → IsWithin S (s ∷ ss) (r ∷ rs) → s.start ≡ r.start → s.end ≤ r.end
end-le next S steps r rs s ss k l f e = by_order (cases_lt r.end s.end)
  where
    by_part : r.end < s.end → Covered (r ∷ rs) (next r.end) → ⊥
    by_part h (inl p) = omega (arith, p.1, steps.above r.end)
    by_part h (inr p) = omega (arith, behind next S steps r rs k.0 (next r.end) p)

    by_order : (r.end < s.end) ⊎ (s.end ≤ r.end) → s.end ≤ r.end
    by_order (inr h) = h
    by_order (inl h) =
        let p : Covers s (next r.end) = (omega (arith, steps.above r.end, head-holds next r rs k.0), steps.reaches r.end s.end k.1.1 l.1.1 h) in
        absurd (by_part h (f (next r.end) (steps.member r.end s.end k.1.1 l.1.1 h) (inl p)))

tail-same : (next : ℕ → ℕ) (S : ℕ → Type 0) → Steps next S → (r : Range) (rs : List Range) (s : Range) (ss : List Range) → AreKept next S (r ∷ rs) → r ≡ s → IsWithin S (r ∷ rs) (s ∷ ss) → IsWithin S rs ss
tail-same next S steps r rs s ss k e f c u h = by_part (f c u (inr h))
  where
    by_part : Covered (s ∷ ss) c → Covered ss c
    by_part (inr p) = p
    by_part (inl p) =
        let m : r.end ≡ s.end = ap (λ x. x.end) e in
        absurd (omega (arith, behind next S steps r rs k.0 c h, steps.above r.end, p.1))

kept-unique : (next : ℕ → ℕ) (S : ℕ → Type 0) → Steps next S → (rs ss : List Range) → AreKept next S rs → AreKept next S ss → IsWithin S rs ss → IsWithin S ss rs → rs ≡ ss
kept-unique next S steps [] [] k l f g = refl
kept-unique next S steps [] (s ∷ ss) k l f g = absurd (g s.start l.1.0 (inl (omega arith, head-holds next s ss l.0)))
kept-unique next S steps (r ∷ rs) [] k l f g = absurd (f r.start k.1.0 (inl (omega arith, head-holds next r rs k.0)))
kept-unique next S steps (r ∷ rs) (s ∷ ss) k l f g =
    let low : s.start ≤ r.start = from_start next S steps s ss l.0 r.start (f r.start k.1.0 (inl (omega arith, head-holds next r rs k.0))) in
    let high : r.start ≤ s.start = from_start next S steps r rs k.0 s.start (g s.start l.1.0 (inl (omega arith, head-holds next s ss l.0))) in
    let start : r.start ≡ s.start = omega arith in
    let e1 : s.end ≤ r.end = end-le next S steps r rs s ss k l g (sym start) in
    let e2 : r.end ≤ s.end = end-le next S steps s ss r rs l k f start in
    let same : r ≡ s = range-same r s start (omega arith) in
    let rest = kept-unique next S steps rs ss (tail-apart next r rs k.0, k.1.2) (tail-apart next s ss l.0, l.1.2) (tail-same next S steps r rs s ss k same f) (tail-same next S steps s ss r rs l (sym same) g) in
    ap (λ x. x ∷ rs) same ∙ ap (λ xs. s ∷ xs) rest

-- two canons of one set of scalar values are equal
pub canon-unique : (S : ℕ → Type 0) (rs ss : List Range) → IsCanon S rs → IsCanon S ss → rs ≡ ss
canon-unique S rs ss k l =
    kept-unique next_scalar IsScalar scalar_steps rs ss k.0 l.0 (λ c u h. (l.1 c u).0 ((k.1 c u).1 h)) (λ c u h. (k.1 c u).0 ((l.1 c u).1 h))

-- two canons of one set of bytes are equal
pub byte_canon-unique : (S : ℕ → Type 0) (rs ss : List Range) → IsByteCanon S rs → IsByteCanon S ss → rs ≡ ss
byte_canon-unique S rs ss k l =
    kept-unique next_byte IsByte byte_steps rs ss k.0 l.0 (λ c u h. (l.1 c u).0 ((k.1 c u).1 h)) (λ c u h. (k.1 c u).0 ((l.1 c u).1 h))
