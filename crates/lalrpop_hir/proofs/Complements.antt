-- What follows for sets from their complements.
use Rattle.std.proofs.Common.{ℕ, ◌⊎◌, ◌↔◌, inl, inr, List, [], ◌∷◌, arith}
use Rattle.std.proofs.lemmas.Bool.{cases_lt}
use Rattle.lalrpop_hir.specs.Range.{Range, Covers, Covered}
use Rattle.lalrpop_hir.specs.Runs.{IsScalar, IsCanon}

covers-or_not : (r : Range) (c : ℕ) → Covers r c ⊎ ¬ Covers r c
covers-or_not r c =
    elim (cases_lt c r.start) [
      | inl h ↦ inr (λ k. omega (arith, k.0))
      | inr h ↦ elim (cases_lt r.end c) [ inl g ↦ inr (λ k. omega (arith, k.1)) | inr g ↦ inl (h, g) ]
    ]

pub covered-or_not : (rs : List Range) (c : ℕ) → Covered rs c ⊎ ¬ Covered rs c
covered-or_not [] c = inr (λ h. h)
covered-or_not (r ∷ rs) c = by_head (covers-or_not r c) (covered-or_not rs c)
  where
    by_head : Covers r c ⊎ ¬ Covers r c → Covered rs c ⊎ ¬ Covered rs c → Covered (r ∷ rs) c ⊎ ¬ Covered (r ∷ rs) c
    by_head (inl h) o = inl (inl h)
    by_head (inr h) (inl k) = inl (inr k)
    by_head (inr h) (inr k) = inr (λ m. elim m [ inl x ↦ h x | inr x ↦ k x ])

-- a canon of a set is a canon of each set with the same characters
pub IsCanon-same : (S T : ℕ → Type 0) (rs : List Range) → ((c : ℕ) → IsScalar c → T c ↔ S c) → IsCanon S rs → IsCanon T rs
IsCanon-same S T rs f k = (k.0, λ c m. (λ t. (k.1 c m).0 ((f c m).0 t), λ h. (f c m).1 ((k.1 c m).1 h)))

-- the canon of what neither complement covers is that of both sets
pub both-canon : (a b not_a not_b out rs : List Range) → IsCanon (λ c. ¬ Covered a c) not_a → IsCanon (λ c. ¬ Covered b c) not_b → IsCanon (λ c. Covered not_a c ⊎ Covered not_b c) out → IsCanon (λ c. ¬ Covered out c) rs → IsCanon (λ c. Covered a c × Covered b c) rs
both-canon a b not_a not_b out rs ka kb ko kr =
    IsCanon-same (λ c. ¬ Covered out c) (λ c. Covered a c × Covered b c) rs same kr
  where
    same : (c : ℕ) → IsScalar c → (Covered a c × Covered b c) ↔ (¬ Covered out c)
    same c m = (to_out, λ n. (in_a n (covered-or_not a c), in_b n (covered-or_not b c)))
      where
        to_out : Covered a c × Covered b c → ¬ Covered out c
        to_out p o =
            elim ((ko.1 c m).1 o) [ inl x ↦ (ka.1 c m).1 x p.0 | inr x ↦ (kb.1 c m).1 x p.1 ]

        in_a : ¬ Covered out c → Covered a c ⊎ ¬ Covered a c → Covered a c
        in_a n (inl h) = h
        in_a n (inr h) = absurd (n ((ko.1 c m).0 (inl ((ka.1 c m).0 h))))

        in_b : ¬ Covered out c → Covered b c ⊎ ¬ Covered b c → Covered b c
        in_b n (inl h) = h
        in_b n (inr h) = absurd (n ((ko.1 c m).0 (inr ((kb.1 c m).0 h))))

-- the canon of what neither the first complement nor the second set covers is that of the difference
pub less-canon : (a b not_a out rs : List Range) → IsCanon (λ c. ¬ Covered a c) not_a → IsCanon (λ c. Covered not_a c ⊎ Covered b c) out → IsCanon (λ c. ¬ Covered out c) rs → IsCanon (λ c. Covered a c × ¬ Covered b c) rs
less-canon a b not_a out rs ka ko kr =
    IsCanon-same (λ c. ¬ Covered out c) (λ c. Covered a c × ¬ Covered b c) rs same kr
  where
    same : (c : ℕ) → IsScalar c → (Covered a c × ¬ Covered b c) ↔ (¬ Covered out c)
    same c m = (to_out, λ n. (in_a n (covered-or_not a c), λ h. n ((ko.1 c m).0 (inr h))))
      where
        to_out : Covered a c × ¬ Covered b c → ¬ Covered out c
        to_out p o = elim ((ko.1 c m).1 o) [ inl x ↦ (ka.1 c m).1 x p.0 | inr x ↦ p.1 x ]

        in_a : ¬ Covered out c → Covered a c ⊎ ¬ Covered a c → Covered a c
        in_a n (inl h) = h
        in_a n (inr h) = absurd (n ((ko.1 c m).0 (inl ((ka.1 c m).0 h))))
