-- The table of pairs that fold alike: its order, its keys, and the part of it that a range picks out.
use Rattle.std.proofs.Common.{◌≡◌, ◌↔◌, inl, inr, ℕ, zero, suc, ◌+◌, ◌-◌, ◌<◌, ◌≤◌, Bool, true, false, ◌&&◌, nat_le, List, [], ◌∷◌, length, get_or, take, drop, length-drop, Contains, refl, sym, ap, subst, ◌∙◌, arith, leb, ltb, leb-true, not-suc-le-zero, le_of_suc-le-suc}
use Rattle.std.specs.List.Sorted.{IsNonDecreasingBy, IsPartitionPoint}
use Rattle.std.proofs.lemmas.Bool.{and_parts, cases_lt, ltb-true, ltb-false, leb-false}
use Rattle.std.proofs.lemmas.List.{get_or-take, get_or-drop, length-take}
use Rattle.std.proofs.Math.Utf8.{scalar}
use Rattle.unicode.specs.CaseFolding.{fold_pairs, IsFoldPairs}
use Rattle.ucd_case.specs.FoldOtherRows.{fold_other_rows}
use Rattle.lalrpop_hir.specs.Runs.{IsScalar}
use Rattle.lalrpop_hir.proofs.Canons.{IsScalar-from_char}
use Rattle.lalrpop_re.specs.Internal.Sets.{AreAlike}

abbrev Pair : Type 0
Pair = ℕ × ℕ

-- the keys are scalar values, and none is below the one before
unfoldable keys_rise : ℕ → List Pair → Bool
keys_rise n [] = true
keys_rise n (p ∷ ps) = (nat_le n p.0 && scalar p.0) && keys_rise p.0 ps

keys_rise-fold_pairs : keys_rise 0 fold_pairs ≡ true
unfolding keys_rise fold_pairs fold_other_rows
keys_rise-fold_pairs = refl

key-least : (n : ℕ) (ps : List Pair) (k : ℕ) (d : Pair) → keys_rise n ps ≡ true → k < length ps → n ≤ (get_or ps k d).0
unfolding keys_rise
key-least n [] k d h lt = absurd (not-suc-le-zero lt)
key-least n (p ∷ ps) zero d h lt = leb-true _ _ (and_parts _ _ (and_parts _ _ h).0).0
key-least n (p ∷ ps) (suc k) d h lt =
    let head : n ≤ p.0 = leb-true _ _ (and_parts _ _ (and_parts _ _ h).0).0 in
    omega (arith, key-least p.0 ps k d (and_parts _ _ h).1 (le_of_suc-le-suc lt))

keys-ordered : (n : ℕ) (ps : List Pair) → keys_rise n ps ≡ true → IsNonDecreasingBy (λ p. p.0) ps
unfolding keys_rise
keys-ordered n [] h i j d le lt = absurd (not-suc-le-zero lt)
keys-ordered n (p ∷ ps) h zero zero d le lt = omega arith
keys-ordered n (p ∷ ps) h (suc i) zero d le lt = absurd (not-suc-le-zero le)
keys-ordered n (p ∷ ps) h zero (suc j) d le lt = key-least p.0 ps j d (and_parts _ _ h).1 (le_of_suc-le-suc lt)
keys-ordered n (p ∷ ps) h (suc i) (suc j) d le lt = keys-ordered p.0 ps (and_parts _ _ h).1 i j d (le_of_suc-le-suc le) (le_of_suc-le-suc lt)

pub table-ordered : (all : List Pair) → all ≡ fold_pairs → IsNonDecreasingBy (λ p. p.0) all
table-ordered all e = subst (IsNonDecreasingBy (λ p. p.0)) (sym e) (keys-ordered 0 fold_pairs keys_rise-fold_pairs)

key-scalar : (n : ℕ) (ps : List Pair) (d c : ℕ) → keys_rise n ps ≡ true → Contains ps (d, c) → scalar d ≡ true
unfolding keys_rise
key-scalar n [] d c h (k, lt, at) = absurd (not-suc-le-zero lt)
key-scalar n (p ∷ ps) d c h (zero, lt, at) = subst (λ x. scalar x ≡ true) (ap (λ q. q.0) at) (and_parts _ _ (and_parts _ _ h).0).1
key-scalar n (p ∷ ps) d c h (suc k, lt, at) = key-scalar p.0 ps d c (and_parts _ _ h).1 (k, le_of_suc-le-suc lt, at)

fold_pairs-scalar : (d c : ℕ) → Contains fold_pairs (d, c) → IsScalar d
fold_pairs-scalar d c h = IsScalar-from_char d (key-scalar 0 fold_pairs d c keys_rise-fold_pairs h)

-- ---- the part with keys from low to high

-- that part lies from one place to another
cut : (ps : List Pair) (i n low high : ℕ) → IsPartitionPoint (λ p. ltb p.0 low ≡ true) (λ p. ltb p.0 low ≡ false) ps i → IsPartitionPoint (λ p. leb p.0 high ≡ true) (λ p. leb p.0 high ≡ false) (drop i ps) n
    → (d c : ℕ) → Contains (take n (drop i ps)) (d, c) ↔ ((low ≤ d) × (d ≤ high) × Contains ps (d, c))
cut ps i n low high p q d c = (within, λ h. found h.0 h.1 h.2)
  where
    x : Pair
    x = (d, c)

    within : Contains (take n (drop i ps)) x → (low ≤ d) × (d ≤ high) × Contains ps x
    within (k, lt, at) =
        let first : k < n = omega (arith, length-take n (drop i ps)) in
        let inner : k < length (drop i ps) = omega (arith, length-take n (drop i ps)) in
        let rest : get_or (drop i ps) k x ≡ x = sym (get_or-take n (drop i ps) k x first) ∙ at in
        let whole : get_or ps (i + k) x ≡ x = sym (get_or-drop i ps k x) ∙ rest in
        let bound : i + k < length ps = omega (arith, length-drop i ps) in
        let above : low ≤ d = ltb-false d low (subst (λ (y : Pair). ltb y.0 low ≡ false) whole (p.1 (i + k) x (omega arith) bound)) in
        let below : d ≤ high = leb-true d high (subst (λ (y : Pair). leb y.0 high ≡ true) rest (q.0 k x (omega arith) first)) in
        (above, below, (i + k, bound, whole))

    found : low ≤ d → d ≤ high → Contains ps x → Contains (take n (drop i ps)) x
    found above below (k, lt, at) =
        let behind : i ≤ k = elim (cases_lt k i) [
          | inl h ↦ absurd (omega (arith, ltb-true d low (subst (λ (y : Pair). ltb y.0 low ≡ true) at (p.0 k x (omega arith) h))))
          | inr h ↦ h
        ] in
        let j : ℕ = k - i in
        let place : i + j ≡ k = omega arith in
        let rest : get_or (drop i ps) j x ≡ x = get_or-drop i ps j x ∙ (ap (λ m. get_or ps m x) place ∙ at) in
        let inner : j < length (drop i ps) = omega (arith, length-drop i ps) in
        let before : j < n = elim (cases_lt j n) [
          | inl h ↦ h
          | inr h ↦ absurd (omega (arith, leb-false d high (subst (λ (y : Pair). leb y.0 high ≡ false) rest (q.1 j x h inner))))
        ] in
        (j, omega (arith, length-take n (drop i ps)), get_or-take n (drop i ps) j x before ∙ rest)

-- the part of the table with keys from low to high has the pairs of what folds alike
pub part : (all : List Pair) (i n low high : ℕ) → all ≡ fold_pairs → IsFoldPairs all → IsPartitionPoint (λ p. ltb p.0 low ≡ true) (λ p. ltb p.0 low ≡ false) all i → IsPartitionPoint (λ p. leb p.0 high ≡ true) (λ p. leb p.0 high ≡ false) (drop i all) n
    → (d c : ℕ) → Contains (take n (drop i all)) (d, c) ↔ ((low ≤ d) × (d ≤ high) × AreAlike d c)
part all i n low high table pairs p q d c =
    let k = cut all i n low high p q d c in (
      λ h. let f = k.0 h in let g = (pairs d c).0 f.2 in (f.0, f.1, (fold_pairs-scalar d c (subst (λ l. Contains l (d, c)) table f.2), g.0, g.1)),
      λ h. k.1 (h.0, h.1, (pairs d c).1 (h.2.1, h.2.2)),
    )
