-- Where a value leads, by binary search in the tests, which ascend.
use Rattle.std.proofs.Common.{◌≡◌, ℕ, zero, suc, Bool, true, false, inl, inr, ◌+◌, ◌-◌, ◌*◌, ◌^◌, ◌<◌, ◌≤◌, List, [], ◌∷◌, length, get_or, refl, sym, ap, ◌∙◌, ⊎_elim, subst, arith}
use Rattle.std.specs.Prelude.{slice_get, Option, Some, None, IsSomeAnd, if◌then◌else◌}
use Rattle.std.specs.List.{Contains}
use Rattle.std.proofs.lemmas.Bool.{le-leb, lt-leb, cases_lt}
use Rattle.std.proofs.lemmas.Option.{slice_get_cases, slice_get_within, slice_get-get_or}
use Rattle.lalrpop_hir.specs.Range.{Range, Covers}
use Rattle.lalrpop_dfa.specs.Dfa.{Row, edge_target, step, AreAscendingTests, IsWellFormed}
use Rattle.lalrpop_dfa.specs.Stored.{EndBefore}

pub leads_first : (t : Range × ℕ) (ts : List (Range × ℕ)) (o c : ℕ) → Covers t.0 c → edge_target (t ∷ ts) o c ≡ t.1
leads_first t ts o c h = rw (le-leb t.0.start c h.0, le-leb c t.0.end h.1)

pub leads_later : (t : Range × ℕ) (ts : List (Range × ℕ)) (o c : ℕ) → ¬ Covers t.0 c → edge_target (t ∷ ts) o c ≡ edge_target ts o c
leads_later t ts o c h =
    ⊎_elim (λ (l : c < t.0.start). rw (lt-leb t.0.start c l))
    (λ (l : t.0.start ≤ c).
    ⊎_elim (λ (k : t.0.end < c). rw (le-leb t.0.start c l, lt-leb c t.0.end k))
    (λ (k : c ≤ t.0.end). absurd (h (l, k)))
    (cases_lt t.0.end c))
    (cases_lt c t.0.start)

pub place_of : (ts : List (Range × ℕ)) (t : Range × ℕ) → Contains ts t → (k : ℕ) × (slice_get ts k ≡ Some t)
place_of ts t (k, l, e) = (k, slice_get-get_or ts k t l ∙ ap (λ u. Some u) e)

pub at_place : (ts : List (Range × ℕ)) (k : ℕ) (t : Range × ℕ) → k < length ts → t ≡ get_or ts k t → slice_get ts k ≡ Some t
at_place ts k t l e = slice_get-get_or ts k t l ∙ ap (λ u. Some u) (sym e)

rest_ascends : (t : Range × ℕ) (ts : List (Range × ℕ)) → AreAscendingTests (t ∷ ts) → AreAscendingTests ts
rest_ascends t [] a = tt
rest_ascends t (u ∷ ts) a = a.2

-- no test is empty
pub has_value_at : (ts : List (Range × ℕ)) → AreAscendingTests ts → (k : ℕ) (t : Range × ℕ) → slice_get ts k ≡ Some t → t.0.start ≤ t.0.end
has_value_at [] a k t e = cc
has_value_at (u ∷ []) a zero t e = let same : u ≡ t = cc in subst (λ (x : Range × ℕ). x.0.start ≤ x.0.end) same a
has_value_at (u ∷ v ∷ ts) a zero t e = let same : u ≡ t = cc in subst (λ (x : Range × ℕ). x.0.start ≤ x.0.end) same a.0
has_value_at (u ∷ ts) a (suc k) t e = has_value_at ts (rest_ascends u ts a) k t e

-- each test ends before all later ones begin
before_rest : (u : Range × ℕ) (ts : List (Range × ℕ)) → AreAscendingTests (u ∷ ts) → (k : ℕ) (t : Range × ℕ) → slice_get ts k ≡ Some t → u.0.end < t.0.start
before_rest u [] a k t e = cc
before_rest u (v ∷ ts) a zero t e = let same : v ≡ t = cc in subst (λ (x : Range × ℕ). u.0.end < x.0.start) same a.1
before_rest u (v ∷ ts) a (suc k) t e = omega (arith, a.1, has_value_at (v ∷ ts) a.2 0 v refl, before_rest v ts a.2 k t e)

pub before_at : (ts : List (Range × ℕ)) → AreAscendingTests ts → (j k : ℕ) (t u : Range × ℕ) → j < k → slice_get ts j ≡ Some t → slice_get ts k ≡ Some u → t.0.end < u.0.start
before_at [] a j k t u l e f = cc
before_at (v ∷ ts) a zero zero t u l e f = absurd (omega arith)
before_at (v ∷ ts) a zero (suc k) t u l e f = let same : v ≡ t = cc in subst (λ (x : Range × ℕ). x.0.end < u.0.start) same (before_rest v ts a k u f)
before_at (v ∷ ts) a (suc j) zero t u l e f = absurd (omega arith)
before_at (v ∷ ts) a (suc j) (suc k) t u l e f = before_at ts (rest_ascends v ts a) j k t u (omega arith) e f

-- the test that covers the value is the one that it takes
pub leads_at : (ts : List (Range × ℕ)) → AreAscendingTests ts → (k o c : ℕ) (t : Range × ℕ) → slice_get ts k ≡ Some t → Covers t.0 c → edge_target ts o c ≡ t.1
leads_at [] a k o c t e h = cc
leads_at (u ∷ ts) a zero o c t e h = let same : u ≡ t = cc in leads_first u ts o c (subst (λ (x : Range × ℕ). Covers x.0 c) (sym same) h) ∙ ap (λ (x : Range × ℕ). x.1) same
leads_at (u ∷ ts) a (suc k) o c t e h =
    leads_later u ts o c (λ g. omega (arith, before_rest u ts a k t e, g.1, h.0)) ∙ leads_at ts (rest_ascends u ts a) k o c t e h

pub leads_found : (ts : List (Range × ℕ)) → AreAscendingTests ts → (o c : ℕ) (t : Range × ℕ) → Contains ts t → Covers t.0 c → edge_target ts o c ≡ t.1
leads_found ts a o c t m h = (let p = place_of ts t m in leads_at ts a p.0 o c t p.1 h)

pub leads_none : (ts : List (Range × ℕ)) (o c : ℕ) → ((t : Range × ℕ) → Contains ts t → ¬ Covers t.0 c) → edge_target ts o c ≡ o
leads_none [] o c f = refl
leads_none (u ∷ ts) o c f = leads_later u ts o c (f u (0, omega arith, refl)) ∙ leads_none ts o c (λ t (k, l, e). f t (suc k, omega arith, e))

-- ---- binary search
-- a test that covers the value is at first or after it, and before end
pub record IsNarrowed (ts : List (Range × ℕ)) (value first end : ℕ) : Type 0 where
  pub within : end ≤ length ts
  pub inside : (k : ℕ) (t : Range × ℕ) → slice_get ts k ≡ Some t → Covers t.0 value → (first ≤ k) × (k < end)

pub narrowed_none : (ts : List (Range × ℕ)) (value first end : ℕ) → IsNarrowed ts value first end → end ≤ first → (t : Range × ℕ) → Contains ts t → ¬ Covers t.0 value
narrowed_none ts value first end h l t m c = (let p = place_of ts t m in let in_it = h.inside p.0 t p.1 c in omega (arith, in_it.0, in_it.1))

module _ (ts : List (Range × ℕ)) (a : AreAscendingTests ts) (value first end m : ℕ) (u : Range × ℕ) (h : IsNarrowed ts value first end) (l : m < end) (at : slice_get ts m ≡ Some u) where
  -- the value lies before the test at m
  pub narrowed_below : value < u.0.start → IsNarrowed ts value first m
  narrowed_below less = record {
    within = omega (arith, h.within);
    inside = λ k t e c. ((h.inside k t e c).0, ⊎_elim (λ (x : k < m). x) (λ (x : m ≤ k). absurd (out k t e c x)) (cases_lt k m));
  }
    where
      out : (k : ℕ) (t : Range × ℕ) → slice_get ts k ≡ Some t → Covers t.0 value → m ≤ k → ⊥
      out k t e c x =
          ⊎_elim (λ (y : m < k). omega (arith, before_at ts a m k u t y at e, has_value_at ts a m u at, c.0))
          (λ (y : k ≤ m). let i : k ≡ m = omega arith in let same : t ≡ u = (let g : Some t ≡ Some u = sym e ∙ (ap (slice_get ts) i ∙ at) in cc) in let low : u.0.start ≤ value = subst (λ (x : Range × ℕ). x.0.start ≤ value) same c.0 in omega arith)
          (cases_lt m k)

  -- it lies after the test
  pub narrowed_above : u.0.end < value → IsNarrowed ts value (m + 1) end
  narrowed_above more = record {
    within = h.within;
    inside = λ k t e c. (⊎_elim (λ (x : m < k). omega arith) (λ (x : k ≤ m). absurd (out k t e c x)) (cases_lt m k), (h.inside k t e c).1);
  }
    where
      out : (k : ℕ) (t : Range × ℕ) → slice_get ts k ≡ Some t → Covers t.0 value → k ≤ m → ⊥
      out k t e c x =
          ⊎_elim (λ (y : k < m). omega (arith, before_at ts a k m t u y e at, has_value_at ts a m u at, c.1))
          (λ (y : m ≤ k). let i : k ≡ m = omega arith in let same : t ≡ u = (let g : Some t ≡ Some u = sym e ∙ (ap (slice_get ts) i ∙ at) in cc) in let high : value ≤ u.0.end = subst (λ (x : Range × ℕ). value ≤ x.0.end) same c.1 in omega arith)
          (cases_lt k m)

-- ---- walking
-- the tests before the place end before the value, and the one at the place begins after it
pub leads_between : (ts : List (Range × ℕ)) → AreAscendingTests ts → (place o c : ℕ) → EndBefore ts place c → ((t : Range × ℕ) → slice_get ts place ≡ Some t → c < t.0.start)
    → edge_target ts o c ≡ o
leads_between ts a place o c passed behind = leads_none ts o c (λ t m h. let p = place_of ts t m in out p.0 t p.1 h)
  where
    out : (k : ℕ) (t : Range × ℕ) → slice_get ts k ≡ Some t → Covers t.0 c → ⊥
    out k t e h = ⊎_elim (λ (x : k < place). omega (arith, passed k t x e, h.1)) (λ (x : place ≤ k). ⊎_elim (later k t e h) (here k t e h x) (cases_lt place k)) (cases_lt k place)
      where
        here : (k : ℕ) (t : Range × ℕ) → slice_get ts k ≡ Some t → Covers t.0 c → place ≤ k → k ≤ place → ⊥
        here k t e h x y = let i : place ≡ k = omega arith in omega (arith, behind t (ap (slice_get ts) i ∙ e), h.0)

        later : (k : ℕ) (t : Range × ℕ) → slice_get ts k ≡ Some t → Covers t.0 c → place < k → ⊥
        later k t e h x = elim (slice_get_cases ts place).1 [
          | inl u ↦ omega (arith, behind u.0 u.2, has_value_at ts a place u.0 u.2, before_at ts a place k u.0 t x u.2 e, h.0)
          | inr past ↦ omega (arith, past.0, slice_get_within ts k t e)
        ]

-- ---- its cost
-- for n tests, fewer than 2 ^ d, the probes made so far and e more are at most d: what is left has fewer than 2 ^ e
abbrev pub AreProbed : ℕ → ℕ → ℕ → ℕ → Type 0
AreProbed n left before probes = (d : ℕ) → n < 2 ^ d → (e : ℕ) × ((left < 2 ^ e) × (probes + e ≤ before + d))

pub probed_more : (n left left2 before probes probes2 : ℕ) → AreProbed n left before probes → 0 < left → 2 * left2 ≤ left → probes2 ≡ probes + 1 → AreProbed n left2 before probes2
probed_more n left left2 before probes probes2 h some half more d l = again (h d l)
  where
    again : (e : ℕ) × ((left < 2 ^ e) × (probes + e ≤ before + d)) → (e : ℕ) × ((left2 < 2 ^ e) × (probes2 + e ≤ before + d))
    again (zero, (less, at)) = absurd (let one : 2 ^ 0 ≡ 1 = refl in omega arith)
    again (suc e, (less, at)) = (e, ((let two : 2 ^ suc e ≡ 2 * 2 ^ e = grind arith in omega arith), omega arith))

-- at most n probes for each of k characters, and for one more
pub probed_turn : (before probes probes2 k k2 d : ℕ) → probes ≤ before + k * d → probes2 ≤ probes + d → k2 ≡ k + 1 → probes2 ≤ before + k2 * d
probed_turn before probes probes2 k k2 d h more next =
    let e : (k + 1) * d ≡ k * d + d = grind arith in
    let f : k2 * d ≡ k * d + d = ap (λ (i : ℕ). i * d) next ∙ e in
    omega arith

pub probed_end : (before probes k n d : ℕ) → probes ≤ before + k * d → k ≤ n → probes ≤ before + n * d
probed_end before probes k n d h l =
    let e : n * d ≡ k * d + (n - k) * d = (let f : k + (n - k) ≡ n = omega arith in ap (λ (i : ℕ). i * d) (sym f) ∙ grind arith) in
    omega arith

-- ---- states
-- the step from a state is the step of its row
pub step_of : (d : List Row) (p c : ℕ) (r : Row) → slice_get d p ≡ Some r → step d p c ≡ edge_target r.tests r.other c
step_of d p c r e = rw e

-- a row that is there has the property
pub the_some : {A : Type 0} (o : Option A) (P : A → Type 0) → IsSomeAnd o P → (x : A) × ((o ≡ Some x) × P x)
the_some None P h = absurd h
the_some (Some x) P h = (x, (refl, h))

pub tests_of : (d : List Row) (p : ℕ) (r : Row) (ts : List (Range × ℕ)) → slice_get d p ≡ Some r → IsSomeAnd (slice_get d p) (λ x. ts ≡ x.tests) → ts ≡ r.tests
tests_of d p r ts e h = subst (λ o. IsSomeAnd o (λ x. ts ≡ x.tests)) e h

if_below : (b : Bool) (x y n : ℕ) → x < n → y < n → (if b then x else y) < n
if_below true x y n k l = k
if_below false x y n k l = l

target_below : (ts : List (Range × ℕ)) (o c n : ℕ) → o < n → ((t : Range × ℕ) → Contains ts t → t.1 < n) → edge_target ts o c < n
target_below [] o c n l f = l
target_below (t ∷ ts) o c n l f = if_below _ t.1 (edge_target ts o c) n (f t (0, omega arith, refl)) (target_below ts o c n l (λ u (k, m, e). f u (suc k, omega arith, e)))

-- a value leads to a state
pub step_within : (d : List Row) (p c : ℕ) → IsWellFormed d → p < length d → step d p c < length d
step_within d p c h l = elim (slice_get_cases d p).1 [
  | inl x ↦ rw (step_of d p c x.0 x.2) (target_below x.0.tests x.0.other c (length d) (h.others_in p x.0 x.2) (λ t m. h.tests_in p x.0 t x.2 m))
  | inr past ↦ absurd (omega (arith, past.0))
]
