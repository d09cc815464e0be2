-- What rules say of their tokens, rule by rule, and the first rules that say the same.
use Rattle.std.proofs.Common.{◌≡◌, ◌≢◌, ℕ, zero, suc, ◌+◌, ◌<◌, ◌≤◌, inl, inr, List, [], ◌∷◌, ◌++◌, length, take, drop, map, get_or, refl, sym, ap, subst, ◌∙◌, ⊎_elim, arith, below_more}
use Rattle.std.specs.Prelude.{Some, slice_get, option_map}
use Rattle.std.proofs.lemmas.Bool.{cases_lt}
use Rattle.std.proofs.lemmas.Option.{same_Some, slice_get-get_or, slice_get-map, slice_get_cases}
use Rattle.lalrpop_hir.proofs.Pushed.{pushed_cases, pushed_last}
use Rattle.lalrpop_rules.specs.Modes.{ModeRules}
use Rattle.lalrpop_review.specs.Apart.{Told, told}
use Rattle.lalrpop_review.specs.Internal.Meanings.{meant, IsFirst, AreFirsts}
use Rattle.lalrpop_review.specs.declared.apart.Meaning.{Meaning}

-- ---- elements of two lists in a row, and of the parts of a list

pub element_in_front : {X : Type 0} (xs ys : List X) (i : ℕ) → i < length xs → slice_get (xs ++ ys) i ≡ slice_get xs i
element_in_front [] ys i within = absurd (omega (arith, within))
element_in_front (x ∷ xs) ys zero within = refl
element_in_front (x ∷ xs) ys (suc i) within = element_in_front xs ys i (omega (arith, within))

pub element_behind : {X : Type 0} (xs ys : List X) (j : ℕ) → slice_get (xs ++ ys) (length xs + j) ≡ slice_get ys j
element_behind [] ys j = let e : 0 + j ≡ j = omega arith in ap (slice_get ys) e
element_behind (x ∷ xs) ys j =
    let e : suc (length xs) + j ≡ suc (length xs + j) = omega arith in ap (slice_get (x ∷ (xs ++ ys))) e ∙ element_behind xs ys j

pub element_taken : {X : Type 0} (n : ℕ) (xs : List X) (i : ℕ) → i < n → slice_get (take n xs) i ≡ slice_get xs i
element_taken zero xs i within = absurd (omega (arith, within))
element_taken (suc n) [] i within = refl
element_taken (suc n) (x ∷ xs) zero within = refl
element_taken (suc n) (x ∷ xs) (suc i) within = element_taken n xs i (omega (arith, within))

pub element_dropped : {X : Type 0} (n : ℕ) (xs : List X) (j : ℕ) → slice_get (drop n xs) j ≡ slice_get xs (n + j)
element_dropped zero xs j = let e : j ≡ 0 + j = omega arith in ap (slice_get xs) e
element_dropped (suc n) [] j = refl
element_dropped (suc n) (x ∷ xs) j = let e : suc (n + j) ≡ suc n + j = omega arith in element_dropped n xs j ∙ ap (slice_get (x ∷ xs)) e

-- an element that was read
read_at : (ms : List Meaning) (i : ℕ) (d : Meaning) → i < length ms → slice_get (map meant ms) i ≡ Some (meant (get_or ms i d))
read_at ms i d within = slice_get-map meant ms i ∙ ap (option_map meant) (slice_get-get_or ms i d within)

-- ---- one rule after another

pub told_more : (r : ModeRules) (ms : List Meaning) (m : Meaning) (n : ℕ) → length ms ≡ n
    → ((i : ℕ) → i < n → slice_get (map meant ms) i ≡ told r (Some i)) → Some (meant m) ≡ told r (Some n)
    → (i : ℕ) → i < n + 1 → slice_get (map meant (ms ++ m ∷ [])) i ≡ told r (Some i)
told_more r ms m n long each here = below_more _ n early last
  where
    early : (i : ℕ) → i < n → slice_get (map meant (ms ++ m ∷ [])) i ≡ told r (Some i)
    early i below =
        slice_get-map meant (ms ++ m ∷ []) i ∙ ap (option_map meant) (element_in_front ms (m ∷ []) i (omega (arith, below, long)))
        ∙ sym (slice_get-map meant ms i) ∙ each i below

    last : slice_get (map meant (ms ++ m ∷ [])) n ≡ told r (Some n)
    last =
        slice_get-map meant (ms ++ m ∷ []) n ∙ ap (λ k. option_map meant (slice_get (ms ++ m ∷ []) k)) (sym long)
        ∙ ap (option_map meant) (pushed_last ms m) ∙ here

-- ---- the first that says the same

pub first_found : (ms : List Meaning) (place earlier : ℕ) (d e : Meaning) → earlier < place → place < length ms → meant (get_or ms earlier d) ≡ meant (get_or ms place e)
    → ((j : ℕ) → j < earlier → slice_get (map meant ms) j ≢ slice_get (map meant ms) place) → IsFirst (map meant ms) place earlier
first_found ms place earlier d e below within same none = record {
  within = omega (arith, below);
  same = read_at ms earlier d (omega (arith, below, within)) ∙ ap Some same ∙ sym (read_at ms place e within);
  none_before = none;
}

pub none_more : (ms : List Meaning) (place earlier : ℕ) (d e : Meaning) → earlier < place → place < length ms → meant (get_or ms earlier d) ≢ meant (get_or ms place e)
    → ((j : ℕ) → j < earlier → slice_get (map meant ms) j ≢ slice_get (map meant ms) place)
    → (j : ℕ) → j < earlier + 1 → slice_get (map meant ms) j ≢ slice_get (map meant ms) place
none_more ms place earlier d e below within other none = below_more _ earlier none here
  where
    here : slice_get (map meant ms) earlier ≢ slice_get (map meant ms) place
    here is = other (same_Some _ _ (sym (read_at ms earlier d (omega (arith, below, within))) ∙ is ∙ read_at ms place e within))

pub first_is_itself : (ts : List Told) (place : ℕ) → ((j : ℕ) → j < place → slice_get ts j ≢ slice_get ts place) → IsFirst ts place place
first_is_itself ts place none = record { within = omega arith; same = refl; none_before = none }

pub places_more : (ts : List Told) (places : List ℕ) (n first : ℕ) → length places ≡ n → ((i k : ℕ) → slice_get places i ≡ Some k → IsFirst ts i k) → IsFirst ts n first
    → (i k : ℕ) → slice_get (places ++ first ∷ []) i ≡ Some k → IsFirst ts i k
places_more ts places n first long each one i k at = elim (pushed_cases places first i k at) [
  | inl old ↦ each i k old
  | inr new ↦ subst (λ (q : ℕ). IsFirst ts q k) (sym (new.0 ∙ long)) (subst (IsFirst ts n) (sym new.1) one)
]

-- ---- the places as labels: equal just where the same is said

module _ (ts : List Told) (places : List ℕ) (h : AreFirsts ts places) where
  -- each has a place
  pub place_at : (i : ℕ) → i < length ts → (k : ℕ) × (slice_get places i ≡ Some k)
  place_at i within = elim (slice_get_cases places i).1 [ inl found ↦ (found.0, found.2) | inr none ↦ absurd (omega (arith, none.0, h.one_each, within)) ]

  pub told_by_places : (i j : ℕ) → i < length ts → j < length ts → slice_get places i ≡ slice_get places j → slice_get ts i ≡ slice_get ts j
  told_by_places i j in_i in_j e =
      let (k, at) = place_at i in_i in
      sym (h.first i k at).same ∙ (h.first j k (sym e ∙ at)).same

  not_less : (i j k l : ℕ) → slice_get ts i ≡ slice_get ts j → slice_get places i ≡ Some k → slice_get places j ≡ Some l → k < l → ⊥
  not_less i j k l same at_i at_j less = (h.first j l at_j).none_before k less ((h.first i k at_i).same ∙ same)

  pub places_by_told : (i j : ℕ) → i < length ts → j < length ts → slice_get ts i ≡ slice_get ts j → slice_get places i ≡ slice_get places j
  places_by_told i j in_i in_j same =
      let (k, at_i) = place_at i in_i in
      let (l, at_j) = place_at j in_j in
      ⊎_elim (λ (less : k < l). absurd (not_less i j k l same at_i at_j less))
      (λ (from : l ≤ k).
      ⊎_elim (λ (less : l < k). absurd (not_less j i l k (sym same) at_j at_i less))
      (λ (to : k ≤ l). let e : k ≡ l = omega arith in at_i ∙ ap Some e ∙ sym at_j)
      (cases_lt l k))
      (cases_lt k l)
