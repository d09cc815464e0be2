-- Ranges of codes, and the ranges of characters inside them.
use Rattle.std.proofs.Common.{◌≡◌, ◌↔◌, ◌⊎◌, inl, inr, ℕ, zero, suc, ◌+◌, ◌<◌, ◌≤◌, min, max, true, ◌&&◌, nat_le, List, [], ◌∷◌, ◌++◌, length, get_or, refl, sym, ◌∙◌, arith, not-suc-le-zero, le_of_suc-le-suc, leb-true, le-leb}
use Rattle.std.proofs.lemmas.Bool.{and_parts, and_from, or_cases, or_left, or_right}
use Rattle.unicode.specs.Rows.{HasExactly, in_ranges, ranges_rise, is_range, AreRanges, IsRising}
use Rattle.lalrpop_hir.specs.Range.{Range, Covers, Covered}
use Rattle.lalrpop_hir.specs.Runs.{IsScalar, IsCanon}
use Rattle.lalrpop_hir.proofs.Complements.{IsCanon-same}
use Rattle.lalrpop_re.specs.CharacterSet.{Set, Members, HasRuns}

pub Covered-push : (xs : List Range) (r : Range) (c : ℕ) → Covered (xs ++ r ∷ []) c ↔ (Covered xs c ⊎ Covers r c)
Covered-push [] r c = (λ h. elim h [ inl p ↦ inr p | inr n ↦ absurd n ], λ h. elim h [ inl n ↦ absurd n | inr p ↦ inl p ])
Covered-push (x ∷ xs) r c =
    let k = Covered-push xs r c in (
      λ h. elim h [ inl p ↦ inl (inl p) | inr q ↦ elim (k.0 q) [ inl m ↦ inl (inr m) | inr p ↦ inr p ] ],
      λ h. elim h [ inl q ↦ elim q [ inl p ↦ inl p | inr m ↦ inr (k.1 (inl m)) ] | inr p ↦ inr (k.1 (inr p)) ],
    )

-- sets with the same scalar values have the same runs
pub HasRuns-same : (rs : List Range) (s t : Set) → ((c : ℕ) → IsScalar c → s c ≡ t c) → HasRuns rs s → HasRuns rs t
HasRuns-same rs s t e k =
    IsCanon-same (Members s) (Members t) rs (λ c u. (λ h. e c u ∙ h, λ h. sym (e c u) ∙ h)) k

-- ---- codes

-- the code lies in some of the ranges
abbrev pub InCodes : List (ℕ × ℕ) → ℕ → Type 0
InCodes [] c = ⊥
InCodes (p ∷ ps) c = ((p.0 ≤ c) × (c ≤ p.1)) ⊎ InCodes ps c

in_ranges-is : (ps : List (ℕ × ℕ)) (c : ℕ) → (in_ranges ps c ≡ true) ↔ InCodes ps c
unfolding in_ranges
in_ranges-is [] c = (λ h. absurd cc, λ h. absurd h)
in_ranges-is (p ∷ ps) c =
    let k = in_ranges-is ps c in (
      λ h. elim (or_cases (nat_le p.0 c && nat_le c p.1) (in_ranges ps c) h) [
        | inl e ↦ let q = and_parts (nat_le p.0 c) (nat_le c p.1) e in inl (leb-true _ _ q.0, leb-true _ _ q.1)
        | inr e ↦ inr (k.0 e)
      ],
      λ h. elim h [
        | inl q ↦ or_left _ _ (and_from _ _ (le-leb _ _ q.0) (le-leb _ _ q.1))
        | inr q ↦ or_right (nat_le p.0 c && nat_le c p.1) _ (k.1 q)
      ],
    )

InCodes-push : (ps : List (ℕ × ℕ)) (p : ℕ × ℕ) (c : ℕ) → InCodes (ps ++ p ∷ []) c ↔ (InCodes ps c ⊎ ((p.0 ≤ c) × (c ≤ p.1)))
InCodes-push [] p c = (λ h. elim h [ inl e ↦ inr e | inr n ↦ absurd n ], λ h. elim h [ inl n ↦ absurd n | inr e ↦ inl e ])
InCodes-push (q ∷ ps) p c =
    let k = InCodes-push ps p c in (
      λ h. elim h [ inl e ↦ inl (inl e) | inr l ↦ elim (k.0 l) [ inl m ↦ inl (inr m) | inr e ↦ inr e ] ],
      λ h. elim h [ inl l ↦ elim l [ inl e ↦ inl e | inr m ↦ inr (k.1 (inl m)) ] | inr e ↦ inr (k.1 (inr e)) ],
    )

-- the ranges cover the scalar values among the codes
abbrev pub HasCodes : List (ℕ × ℕ) → List Range → Type 0
HasCodes ps rs = (c : ℕ) → IsScalar c → InCodes ps c ↔ Covered rs c

-- a range is pushed whose ends are the least and the greatest scalar value inside
pub codes-pushed : (ps : List (ℕ × ℕ)) (rs : List Range) (p : ℕ × ℕ) (a b : ℕ) → a ≤ b → ((c : ℕ) → IsScalar c → (a ≤ c) ↔ (p.0 ≤ c)) → ((c : ℕ) → IsScalar c → (c ≤ b) ↔ (c ≤ p.1))
    → HasCodes ps rs → HasCodes (ps ++ p ∷ []) (rs ++ record { start = min a b; end = max a b } ∷ [])
codes-pushed ps rs p a b le f g k c u =
    let r : Range = record { start = min a b; end = max a b } in
    let codes = InCodes-push ps p c in
    let push = Covered-push rs r c in
    let old = k c u in (
      λ h. push.1 (elim (codes.0 h) [ inl m ↦ inl (old.0 m) | inr q ↦ inr (omega (arith, (f c u).1 q.0), omega (arith, (g c u).1 q.1)) ]),
      λ h. codes.1 (elim (push.0 h) [ inl m ↦ inl (old.1 m) | inr q ↦ inr ((f c u).0 (omega (arith, q.0)), (g c u).0 (omega (arith, q.1))) ]),
    )

-- no scalar value lies inside
pub codes-left_out : (ps : List (ℕ × ℕ)) (rs : List Range) (p : ℕ × ℕ) (a b : ℕ) → b < a → ((c : ℕ) → IsScalar c → (a ≤ c) ↔ (p.0 ≤ c)) → ((c : ℕ) → IsScalar c → (c ≤ b) ↔ (c ≤ p.1))
    → HasCodes ps rs → HasCodes (ps ++ p ∷ []) rs
codes-left_out ps rs p a b lt f g k c u =
    let codes = InCodes-push ps p c in
    let old = k c u in (
      λ h. elim (codes.0 h) [ inl m ↦ old.0 m | inr q ↦ absurd (omega (arith, (f c u).1 q.0, (g c u).1 q.1)) ],
      λ h. codes.1 (inl (old.1 h)),
    )

pub codes-canon : (ps : List (ℕ × ℕ)) (rs out : List Range) → HasCodes ps rs → IsCanon (Covered rs) out → HasRuns out (in_ranges ps)
codes-canon ps rs out k canon =
    IsCanon-same (Covered rs) (Members (in_ranges ps)) out
    (λ c u. let e = in_ranges-is ps c in let g = k c u in (λ h. g.0 (e.0 h), λ h. e.1 (g.1 h))) canon

scalar-le : (c : ℕ) → IsScalar c → c ≤ 0x10_FFFF
scalar-le c (inl h) = omega arith
scalar-le c (inr h) = omega (arith, h.1)

-- codes that have exactly a set's members, scalar values taken alone
pub HasRuns-exactly : (rs : List Range) (ps : List (ℕ × ℕ)) (s : Set) → HasExactly ps s → HasRuns rs (in_ranges ps) → HasRuns rs s
HasRuns-exactly rs ps s e k = HasRuns-same rs (in_ranges ps) s (λ c u. e c (scalar-le c u)) k

-- ---- ranges that have a member and end within Unicode

pub range-at : (ps : List (ℕ × ℕ)) (i : ℕ) (d : ℕ × ℕ) → AreRanges ps → i < length ps → ((get_or ps i d).0 ≤ (get_or ps i d).1) × ((get_or ps i d).1 ≤ 0x10_FFFF)
range-at [] i d h lt = absurd (not-suc-le-zero lt)
range-at (p ∷ ps) zero d h lt =
    let q = and_parts _ _ (and_parts (is_range p) _ h).0 in (leb-true _ _ q.0, leb-true _ _ q.1)
range-at (p ∷ ps) (suc i) d h lt = range-at ps i d (and_parts (is_range p) _ h).1 (le_of_suc-le-suc lt)

rise-ranges : (n : ℕ) (ps : List (ℕ × ℕ)) → ranges_rise n ps ≡ true → AreRanges ps
unfolding ranges_rise
rise-ranges n [] h = refl
rise-ranges n (p ∷ ps) h =
    let q = and_parts (nat_le n p.0 && is_range p) _ h in and_from _ _ (and_parts (nat_le n p.0) _ q.0).1 (rise-ranges (p.1 + 1) ps q.1)

pub rising-ranges : (ps : List (ℕ × ℕ)) → IsRising ps → AreRanges ps
rising-ranges ps h = rise-ranges 0 ps h
