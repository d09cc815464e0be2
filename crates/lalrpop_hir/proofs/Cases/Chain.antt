-- Cases of specs/Chain.antt.
use Rattle.std.proofs.Common.{◌≡◌, ◌≢◌, ℕ, ◌+◌, [], ◌∷◌, codes, refl, arith}
use Rattle.lalrpop_hir.specs.Chain.{Chain, AtEnd}

-- ---- numbers as pieces: each is its own size, and is right at an even place, up to 5

abbrev Even : ℕ → ℕ → Type 0
Even at x = (half : ℕ) × (at ≡ half + half)

abbrev AtFive : ℕ → Type 0
AtFive at = at ≡ 5

two_and_three : Chain (λ x. x) Even AtFive 0 (2 ∷ 3 ∷ [])
two_and_three = ((0, refl), ((1, refl), refl))

-- the second begins where the first ends
second_at_an_odd_place : ¬ Chain (λ x. x) Even AtFive 0 (3 ∷ 2 ∷ [])
second_at_an_odd_place are = odd are.1.0.0 are.1.0.1
  where
    odd : (half : ℕ) → 3 ≢ half + half
    odd half e = omega (arith, e)

first_at_an_odd_place : ¬ Chain (λ x. x) Even AtFive 1 (4 ∷ [])
first_at_an_odd_place are = odd are.0.0 are.0.1
  where
    odd : (half : ℕ) → 1 ≢ half + half
    odd half e = omega (arith, e)

ends_too_early : ¬ Chain (λ x. x) Even AtFive 0 (2 ∷ 2 ∷ [])
ends_too_early are = omega (arith, are.1.1)

none_where_it_ends : (Is : ℕ → ℕ → Type 0) → Chain (λ x. x) Is AtFive 5 []
none_where_it_ends Is = refl

none_before : (Is : ℕ → ℕ → Type 0) → ¬ Chain (λ x. x) Is AtFive 4 []
none_before Is are = omega (arith, are)

-- ---- the end of a text

end_of_two_bytes : AtEnd (codes "ab") 2
end_of_two_bytes = refl

a_byte_is_left : ¬ AtEnd (codes "ab") 1
a_byte_is_left end = let e = end in absurd (cc)
