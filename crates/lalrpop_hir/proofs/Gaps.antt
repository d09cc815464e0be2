-- The gaps between the runs of a canonical list are the runs of the characters that it leaves out.
use Rattle.std.proofs.Common.{◌≡◌, ℕ, ◌+◌, ◌-◌, ◌<◌, ◌≤◌, ◌⊎◌, inl, inr, List, [], ◌∷◌, ◌++◌, length, drop, min, max, if◌then◌else◌, eqb, refl, sym, ap, subst, ◌∙◌, append_assoc, arith}
use Rattle.std.proofs.lemmas.Bool.{cases_lt}
use Rattle.std.proofs.lemmas.List.{drop_all}
use Rattle.lalrpop_hir.specs.Range.{Range, Covered}
use Rattle.lalrpop_hir.specs.Runs.{IsScalar, next_scalar, AreApart, HaveEndsIn, IsCanonical, IsCanon}
use Rattle.lalrpop_hir.proofs.Canons.{scalar_steps, head-holds, tail-apart, from_start}
use Rattle.lalrpop_hir.proofs.Joining.{IsAt, left}

abbrev pub to : ℕ → ℕ → Range
to a b = record { start = a; end = b }

-- the scalar value before c
abbrev pub prev_scalar : ℕ → ℕ
prev_scalar c = if eqb c 57344 then 55295 else c - 1

-- the runs from low on that the list leaves out
abbrev pub gaps : ℕ → List Range → List Range
gaps low [] =
    elim (cases_lt low 1114112) as (λ _. List Range) [ inl h ↦ to low 1114111 ∷ [] | inr h ↦ [] ]
gaps low (s ∷ ss) =
    elim (cases_lt low s.start) as (λ _. List Range) [ inl h ↦ to low (prev_scalar s.start) ∷ gaps (next_scalar s.end) ss | inr h ↦ gaps (next_scalar s.end) ss ]

pub gaps-open : (low : ℕ) → low < 1114112 → gaps low [] ≡ to low 1114111 ∷ []
gaps-open low h =
    elim (cases_lt low 1114112) as (λ o. elim o as (λ _. List Range) [ inl h ↦ to low 1114111 ∷ [] | inr h ↦ [] ] ≡ to low 1114111 ∷ [])
    [ inl _ ↦ refl | inr g ↦ absurd (omega arith) ]

pub gaps-closed : (low : ℕ) → 1114112 ≤ low → gaps low [] ≡ []
gaps-closed low h =
    elim (cases_lt low 1114112) as (λ o. elim o as (λ _. List Range) [ inl h ↦ to low 1114111 ∷ [] | inr h ↦ [] ] ≡ [])
    [ inl g ↦ absurd (omega arith) | inr _ ↦ refl ]

pub gaps-behind : (low : ℕ) (s : Range) (ss : List Range) → low < s.start → gaps low (s ∷ ss) ≡ to low (prev_scalar s.start) ∷ gaps (next_scalar s.end) ss
gaps-behind low s ss h =
    elim (cases_lt low s.start) as (λ o. elim o as (λ _. List Range) [ inl h ↦ to low (prev_scalar s.start) ∷ gaps (next_scalar s.end) ss | inr h ↦ gaps (next_scalar s.end) ss ] ≡ to low (prev_scalar s.start) ∷ gaps (next_scalar s.end) ss)
    [ inl _ ↦ refl | inr g ↦ absurd (omega arith) ]

pub gaps-beside : (low : ℕ) (s : Range) (ss : List Range) → s.start ≤ low → gaps low (s ∷ ss) ≡ gaps (next_scalar s.end) ss
gaps-beside low s ss h =
    elim (cases_lt low s.start) as (λ o. elim o as (λ _. List Range) [ inl h ↦ to low (prev_scalar s.start) ∷ gaps (next_scalar s.end) ss | inr h ↦ gaps (next_scalar s.end) ss ] ≡ gaps (next_scalar s.end) ss)
    [ inl g ↦ absurd (omega arith) | inr _ ↦ refl ]

by_end : (P : List Range → Type 0) (low : ℕ) → (low < 1114112 → P (to low 1114111 ∷ [])) → (1114112 ≤ low → P []) → P (gaps low [])
by_end P low f g =
    elim (cases_lt low 1114112)
    [ inl h ↦ subst P (sym (gaps-open low h)) (f h) | inr h ↦ subst P (sym (gaps-closed low h)) (g h) ]

by_place : (P : List Range → Type 0) (low : ℕ) (s : Range) (ss : List Range) → (low < s.start → P (to low (prev_scalar s.start) ∷ gaps (next_scalar s.end) ss)) → (s.start ≤ low → P (gaps (next_scalar s.end) ss)) → P (gaps low (s ∷ ss))
by_place P low s ss f g =
    elim (cases_lt low s.start)
    [ inl h ↦ subst P (sym (gaps-behind low s ss h)) (f h) | inr h ↦ subst P (sym (gaps-beside low s ss h)) (g h) ]

-- a scalar value, or the value after the last one
abbrev pub IsPlace : ℕ → Type 0
IsPlace low = IsScalar low ⊎ (low ≡ 1114112)

-- the first range does not start before low
abbrev pub IsBelow : ℕ → List Range → Type 0
IsBelow low [] = Unit {0}
IsBelow low (s ∷ ss) = low ≤ s.start

pub next-place : (c : ℕ) → IsScalar c → IsPlace (next_scalar c)
next-place c s = grind arith

prev-next : (c : ℕ) → IsScalar c → 0 < c → next_scalar (prev_scalar c) ≡ c
prev-next c s h = grind arith

prev-scalar : (c : ℕ) → IsScalar c → 0 < c → IsScalar (prev_scalar c)
prev-scalar c s h = grind arith

prev-reaches : (c d : ℕ) → IsScalar c → IsScalar d → c < d → c ≤ prev_scalar d
prev-reaches c d s u h = grind arith

prev-below : (c : ℕ) → 0 < c → prev_scalar c < c
prev-below c h = grind arith

-- the value before c is the only one whose next value is c
pub prev-unique : (c b : ℕ) → IsScalar b → next_scalar b ≡ c → b ≡ prev_scalar c
prev-unique c b s e = grind arith

scalar-top : (c : ℕ) → IsScalar c → c ≤ 1114111
scalar-top c s = grind arith

pub place-scalar : (low d : ℕ) → IsPlace low → low < d → d ≤ 1114112 → IsScalar low
place-scalar low d (inl s) h g = s
place-scalar low d (inr e) h g = absurd (omega arith)

pub tail-canonical : (y : Range) (ys : List Range) → IsCanonical (y ∷ ys) → IsCanonical ys
tail-canonical y ys k = (tail-apart next_scalar y ys k.0, k.1.2)

pub tail-below : (y : Range) (ys : List Range) → AreApart next_scalar (y ∷ ys) → IsBelow (next_scalar y.end) ys
tail-below y [] a = tt
tail-below y (z ∷ ys) a = omega (arith, a.1)

in_front : (r : Range) (low : ℕ) (ss : List Range) → r.start ≤ r.end → next_scalar r.end < low → AreApart next_scalar ss → IsBelow low ss → AreApart next_scalar (gaps low ss) → AreApart next_scalar (r ∷ gaps low ss)
in_front r low [] f h k b =
    by_end (λ l. AreApart next_scalar l → AreApart next_scalar (r ∷ l)) low (λ _ a. (f, h, a)) (λ _ a. f)
in_front r low (s ∷ ss) f h k b =
    by_place (λ l. AreApart next_scalar l → AreApart next_scalar (r ∷ l)) low s ss
    (λ _ a. (f, h, a))
    (λ g. in_front r (next_scalar s.end) ss f (omega (arith, head-holds next_scalar s ss k, scalar_steps.above s.end)) (tail-apart next_scalar s ss k) (tail-below s ss k))

gaps-apart : (low : ℕ) (ss : List Range) → IsCanonical ss → IsBelow low ss → IsPlace low → AreApart next_scalar (gaps low ss)
gaps-apart low [] k b p = by_end (AreApart next_scalar) low (λ h. omega arith) (λ _. tt)
gaps-apart low (s ∷ ss) k b p =
    let rest = gaps-apart (next_scalar s.end) ss (tail-canonical s ss k) (tail-below s ss k.0) (next-place s.end k.1.1) in
    by_place (AreApart next_scalar) low s ss
    (λ h.
    let before : next_scalar (prev_scalar s.start) ≡ s.start = prev-next s.start k.1.0 (omega arith) in
    in_front (to low (prev_scalar s.start)) (next_scalar s.end) ss (prev-reaches low s.start (place-scalar low s.start p h (omega (arith, scalar-top s.start k.1.0))) k.1.0 h) (omega (arith, before, head-holds next_scalar s ss k.0, scalar_steps.above s.end)) (tail-apart next_scalar s ss k.0) (tail-below s ss k.0) rest)
    (λ _. rest)

gaps-ends : (low : ℕ) (ss : List Range) → IsCanonical ss → IsBelow low ss → IsPlace low → HaveEndsIn IsScalar (gaps low ss)
gaps-ends low [] k b p =
    by_end (HaveEndsIn IsScalar) low (λ h. (place-scalar low 1114112 p h (omega arith), inr (omega arith, omega arith), tt)) (λ _. tt)
gaps-ends low (s ∷ ss) k b p =
    let rest = gaps-ends (next_scalar s.end) ss (tail-canonical s ss k) (tail-below s ss k.0) (next-place s.end k.1.1) in
    by_place (HaveEndsIn IsScalar) low s ss
    (λ h. (place-scalar low s.start p h (omega (arith, scalar-top s.start k.1.0)), prev-scalar s.start k.1.0 (omega arith), rest))
    (λ _. rest)

gaps-above : (low : ℕ) (ss : List Range) (c : ℕ) → AreApart next_scalar ss → IsBelow low ss → Covered (gaps low ss) c → low ≤ c
gaps-above low [] c a b = by_end (λ l. Covered l c → low ≤ c) low (λ _ g. elim g [ inl h ↦ h.0 | inr h ↦ absurd h ]) (λ _ g. absurd g)
gaps-above low (s ∷ ss) c a b =
    let below : low < next_scalar s.end = omega (arith, b, head-holds next_scalar s ss a, scalar_steps.above s.end) in
    let rest : Covered (gaps (next_scalar s.end) ss) c → low ≤ c =
    λ g. omega (arith, below, gaps-above (next_scalar s.end) ss c (tail-apart next_scalar s ss a) (tail-below s ss a) g) in
    by_place (λ l. Covered l c → low ≤ c) low s ss (λ _ g. elim g [ inl h ↦ h.0 | inr h ↦ rest h ]) (λ _. rest)

gaps-sound : (low : ℕ) (ss : List Range) (c : ℕ) → AreApart next_scalar ss → IsBelow low ss → Covered (gaps low ss) c → ¬ Covered ss c
gaps-sound low [] c a b = λ g h. h
gaps-sound low (s ∷ ss) c a b =
    let others = gaps-sound (next_scalar s.end) ss c (tail-apart next_scalar s ss a) (tail-below s ss a) in
    by_place (λ l. Covered l c → ¬ Covered (s ∷ ss) c) low s ss
    (λ h g. elim g [
      | inl k ↦ (λ m. omega (arith, k.1, prev-below s.start (omega arith), from_start next_scalar IsScalar scalar_steps s ss a c m))
      | inr k ↦ rest others k
    ])
    (λ _. rest others)
  where
    apart : c ≤ s.end → Covered (gaps (next_scalar s.end) ss) c → ⊥
    apart h g =
        omega (arith, h, scalar_steps.above s.end, gaps-above (next_scalar s.end) ss c (tail-apart next_scalar s ss a) (tail-below s ss a) g)

    rest : (Covered (gaps (next_scalar s.end) ss) c → ¬ Covered ss c) → Covered (gaps (next_scalar s.end) ss) c → ¬ Covered (s ∷ ss) c
    rest f g (inl h) = apart h.1 g
    rest f g (inr h) = f g h

gaps-complete : (low : ℕ) (ss : List Range) (c : ℕ) → IsScalar c → IsCanonical ss → low ≤ c → ¬ Covered ss c → Covered (gaps low ss) c
gaps-complete low [] c m k l n =
    by_end (λ l. Covered l c) low (λ _. inl (l, scalar-top c m)) (λ h. absurd (omega (arith, scalar-top c m)))
gaps-complete low (s ∷ ss) c m k l n =
    let others = λ (g : next_scalar s.end ≤ c). gaps-complete (next_scalar s.end) ss c m (tail-canonical s ss k) g (λ x. n (inr x)) in
    elim (cases_lt c s.start) [
      | inl h ↦ by_place (λ l. Covered l c) low s ss (λ _. inl (l, prev-reaches c s.start m k.1.0 h)) (λ g. absurd (omega arith))
      | inr h ↦ by_place (λ l. Covered l c) low s ss (λ _. inr (behind others h)) (λ _. behind others h)
    ]
  where
    behind : (next_scalar s.end ≤ c → Covered (gaps (next_scalar s.end) ss) c) → s.start ≤ c → Covered (gaps (next_scalar s.end) ss) c
    behind f h =
        elim (cases_lt s.end c) [
          | inl g ↦ f (scalar_steps.reaches s.end c k.1.1 m g)
          | inr g ↦ absurd (n (inl (h, g)))
        ]

below-zero : (ss : List Range) → IsBelow 0 ss
below-zero [] = tt
below-zero (s ∷ ss) = omega arith

zero-place : IsPlace 0
zero-place = inl (inl (omega arith))

-- the gaps are the runs of what the list leaves out
pub gaps-canon : (ss : List Range) → IsCanonical ss → IsCanon (λ c. ¬ Covered ss c) (gaps 0 ss)
gaps-canon ss k =
    ((gaps-apart 0 ss k (below-zero ss) zero-place, gaps-ends 0 ss k (below-zero ss) zero-place), λ c m. (gaps-complete 0 ss c m k (omega arith), gaps-sound 0 ss c k.0 (below-zero ss)))

-- after i ranges: the gaps so far and those of what is left are all gaps
pub record IsLeavingOut (ss : List Range) (i : ℕ) (done : List Range) (low : ℕ) : Type 0 where
  pub gaps_are : done ++ gaps low (drop i ss) ≡ gaps 0 ss
  pub place : IsPlace low
  pub canonical : IsCanonical (drop i ss)

pub here-canonical : (ss : List Range) (i : ℕ) (s : Range) → IsAt ss i s → IsCanonical (drop i ss) → IsCanonical (s ∷ drop (i + 1) ss)
here-canonical ss i s a k = subst IsCanonical (left ss i s a) k

pub IsLeavingOut-behind : (ss : List Range) (i : ℕ) (done : List Range) (low : ℕ) (s r : Range) → IsLeavingOut ss i done low → IsAt ss i s → low < s.start → r ≡ to low (prev_scalar s.start) → IsLeavingOut ss (i + 1) (done ++ r ∷ []) (next_scalar s.end)
IsLeavingOut-behind ss i done low s r k a h e =
    let c = here-canonical ss i s a k.canonical in
    let turn : gaps low (drop i ss) ≡ r ∷ gaps (next_scalar s.end) (drop (i + 1) ss) =
    ap (gaps low) (left ss i s a) ∙ (gaps-behind low s (drop (i + 1) ss) h ∙ ap (λ x. x ∷ gaps (next_scalar s.end) (drop (i + 1) ss)) (sym e)) in
    record {
      gaps_are = append_assoc done (r ∷ []) (gaps (next_scalar s.end) (drop (i + 1) ss)) ∙ (ap (λ x. done ++ x) (sym turn) ∙ k.gaps_are);
      place = next-place s.end c.1.1;
      canonical = tail-canonical s (drop (i + 1) ss) c;
    }

pub IsLeavingOut-beside : (ss : List Range) (i : ℕ) (done : List Range) (low : ℕ) (s : Range) → IsLeavingOut ss i done low → IsAt ss i s → s.start ≤ low → IsLeavingOut ss (i + 1) done (next_scalar s.end)
IsLeavingOut-beside ss i done low s k a h =
    let c = here-canonical ss i s a k.canonical in
    let turn : gaps low (drop i ss) ≡ gaps (next_scalar s.end) (drop (i + 1) ss) =
    ap (gaps low) (left ss i s a) ∙ gaps-beside low s (drop (i + 1) ss) h in
    record {
      gaps_are = ap (λ x. done ++ x) (sym turn) ∙ k.gaps_are;
      place = next-place s.end c.1.1;
      canonical = tail-canonical s (drop (i + 1) ss) c;
    }

pub IsLeavingOut-open : (ss : List Range) (i : ℕ) (done : List Range) (low : ℕ) → IsLeavingOut ss i done low → length ss ≤ i → low < 1114112 → done ++ to low 1114111 ∷ [] ≡ gaps 0 ss
IsLeavingOut-open ss i done low k h g =
    ap (λ x. done ++ x) (sym (ap (gaps low) (drop_all i ss h) ∙ gaps-open low g)) ∙ k.gaps_are

pub IsLeavingOut-closed : (ss : List Range) (i : ℕ) (done : List Range) (low : ℕ) → IsLeavingOut ss i done low → length ss ≤ i → 1114112 ≤ low → done ++ [] ≡ gaps 0 ss
IsLeavingOut-closed ss i done low k h g =
    ap (λ x. done ++ x) (sym (ap (gaps low) (drop_all i ss h) ∙ gaps-closed low g)) ∙ k.gaps_are

-- the range of two ends in order
pub ordered-range : (x y : ℕ) (r : Range) → r ≡ to (min x y) (max x y) → x ≤ y → r ≡ to x y
ordered-range x y r e h =
    let a : min x y ≡ x = omega arith in
    let b : max x y ≡ y = omega arith in
    e ∙ (ap (λ v. to v (max x y)) a ∙ ap (to x) b)

-- the range between low and the value before start
pub gap-range : (low x y start : ℕ) (r : Range) → IsPlace low → IsScalar start → low < start → x ≡ low → IsScalar y → next_scalar y ≡ start → r ≡ to (min x y) (max x y) → r ≡ to low (prev_scalar start)
gap-range low x y start r p s h ex sy ey e =
    let same : y ≡ prev_scalar start = prev-unique start y sy ey in
    let le : low ≤ prev_scalar start = prev-reaches low start (place-scalar low start p h (omega (arith, scalar-top start s))) s h in
    ordered-range x y r e (omega arith) ∙ (ap (λ v. to v y) ex ∙ ap (to low) same)

pub top-range : (low x : ℕ) (r : Range) → x ≡ low → low < 1114112 → r ≡ to (min x 1114111) (max x 1114111) → r ≡ to low 1114111
top-range low x r ex h e = ordered-range x 1114111 r e (omega arith) ∙ ap (λ v. to v 1114111) ex
