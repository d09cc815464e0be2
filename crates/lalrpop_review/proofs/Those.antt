-- The numbers below n with a property, one after another.
use Rattle.std.proofs.Common.{◌≡◌, ℕ, ◌+◌, ◌<◌, ◌≤◌, ◌↔◌, inl, inr, List, [], ◌∷◌, ◌++◌, length, eq-or-lt_of_le, sym, ap, ◌∙◌, subst, arith}
use Rattle.std.specs.Prelude.{Some, slice_get, Contains}
use Rattle.std.proofs.lemmas.List.Elements.{Contains-append_left, Contains-push, Contains-push_cases}
use Rattle.std.proofs.lemmas.Option.{get_or_from_slice_get, slice_get_within}
use Rattle.lalrpop_hir.proofs.Contained.{contains_none}
use Rattle.lalrpop_hir.proofs.Pushed.{pushed_cases}
use Rattle.lalrpop_review.specs.Review.{AreThose}

pub no_numbers : (P : ℕ → Type 0) → AreThose 0 P []
no_numbers P = record { ascending = λ a b i j less at there. absurd (cc); all = λ i. (λ has. absurd (contains_none i has), λ both. absurd (omega (arith, both.0))) }

module _ (n : ℕ) (P : ℕ → Type 0) (found : List ℕ) (h : AreThose n P found) where
  -- the next has the property
  pub one_more : P n → AreThose (n + 1) P (found ++ n ∷ [])
  one_more holds = record { ascending = ascending; all = λ i. (to i, from i) }
    where
      ascending : (a b i j : ℕ) → a < b → slice_get (found ++ n ∷ []) a ≡ Some i → slice_get (found ++ n ∷ []) b ≡ Some j → i < j
      ascending a b i j less at there = elim (pushed_cases found n b j there) [
        | inl old ↦
            let within : b < length found = slice_get_within found b j old in
            elim (pushed_cases found n a i at) [ inl early ↦ h.ascending a b i j less early old | inr last ↦ absurd (omega (arith, less, within, last.0)) ]
        | inr new ↦
            elim (pushed_cases found n a i at) [
              | inl early ↦ (let below : i < n = below_n a i early in omega (arith, below, new.1))
              | inr last ↦ absurd (omega (arith, less, new.0, last.0))
            ]
      ]
        where
          below_n : (a i : ℕ) → slice_get found a ≡ Some i → i < n
          below_n a i early = ((h.all i).0 (has found a i early)).0
            where
              has : (xs : List ℕ) (a i : ℕ) → slice_get xs a ≡ Some i → Contains xs i
              has xs a i at = (a, slice_get_within xs a i at, get_or_from_slice_get xs a i i at)

      to : (i : ℕ) → Contains (found ++ n ∷ []) i → (i < n + 1) × P i
      to i has = elim (Contains-push_cases found n i has) [
        | inl old ↦ (let both = (h.all i).0 old in (omega (arith, both.0), both.1))
        | inr same ↦ (omega (arith, same), subst P same holds)
      ]

      from : (i : ℕ) → (i < n + 1) × P i → Contains (found ++ n ∷ []) i
      from i (below, p) =
          let least : i ≤ n = omega (arith, below) in
          elim (eq-or-lt_of_le least) [
            | inl same ↦ subst (Contains (found ++ n ∷ [])) (sym same) (Contains-push found n)
            | inr less ↦ Contains-append_left found (n ∷ []) i ((h.all i).1 (less, p))
          ]

  -- the next hasn't
  pub none_more : ¬ P n → AreThose (n + 1) P found
  none_more not = record { ascending = h.ascending; all = λ i. (to i, from i) }
    where
      to : (i : ℕ) → Contains found i → (i < n + 1) × P i
      to i has = let both = (h.all i).0 has in (omega (arith, both.0), both.1)

      from : (i : ℕ) → (i < n + 1) × P i → Contains found i
      from i (below, p) =
          let least : i ≤ n = omega (arith, below) in
          elim (eq-or-lt_of_le least) [ inl same ↦ absurd (not (subst P same p)) | inr less ↦ (h.all i).1 (less, p) ]

-- the next that is found
pub next_found : (n : ℕ) (P : ℕ → Type 0) (found new : List ℕ) (x : ℕ) → AreThose n P found → P n → x ≡ n → new ≡ found ++ x ∷ [] → AreThose (n + 1) P new
next_found n P found new x h holds same pushed =
    let all : new ≡ found ++ n ∷ [] = pushed ∙ ap (λ k. found ++ k ∷ []) same in
    subst (AreThose (n + 1) P) (sym all) (one_more n P found h holds)

-- the next that isn't
pub next_left : (n : ℕ) (P : ℕ → Type 0) (found new : List ℕ) → AreThose n P found → ¬ P n → new ≡ found → AreThose (n + 1) P new
next_left n P found new h not same = subst (AreThose (n + 1) P) (sym same) (none_more n P found h not)

-- the same numbers, by another property
pub those_same : (n k : ℕ) (P Q : ℕ → Type 0) (found : List ℕ) → n ≡ k → ((i : ℕ) → i < k → P i ↔ Q i) → AreThose n P found → AreThose k Q found
those_same n k P Q found e same h = record { ascending = h.ascending; all = λ i. (to i, from i) }
  where
    to : (i : ℕ) → Contains found i → (i < k) × Q i
    to i has = let both = (h.all i).0 has in let below : i < k = omega (arith, both.0, e) in (below, (same i below).0 both.1)

    from : (i : ℕ) → (i < k) × Q i → Contains found i
    from i (below, q) = (h.all i).1 (omega (arith, below, e), (same i below).1 q)
