-- Cases of specs/Kernels.antt: the kernels are numbers, of which even ones are equal, and odd ones.
use Rattle.std.proofs.Common.{◌≡◌, ℕ, zero, suc, [], ◌∷◌, Some, None, refl, sym, subst, arith}
use Rattle.std.specs.Prelude.{eqb, cond, ◌%◌}
use Rattle.std.specs.declared.cmp.Ordering.{Ordering}
use Rattle.std.specs.declared.cmp.Ordering.TheVariants.{Less, Equal}
use Rattle.lalrpop_dfa.specs.Kernels.{IsNumberOf, AreDistinct, added, ClonesEqual, moved}

abbrev compare : ℕ → ℕ → Ordering
compare m n = cond (eqb (m % 2) (n % 2)) Equal Less

-- 7 equals 5, which has the number 1
number_of_an_equal_kernel : IsNumberOf compare (4 ∷ 5 ∷ []) 7 1
number_of_an_equal_kernel = (5, refl, refl)

not_the_number_of_another_kernel : ¬ IsNumberOf compare (4 ∷ 5 ∷ []) 7 0
not_the_number_of_another_kernel (q, e, s) =
    let same : 4 ≡ q = cc in
    let unequal : compare 7 4 ≡ Less = refl in
    let equal : compare 7 4 ≡ Equal = subst (λ n. compare 7 n ≡ Equal) (sym same) s in
    absurd (cc)

-- 4 and 5 are distinct, 4 and 6 aren't
one_of_each_is_distinct : AreDistinct compare (4 ∷ 5 ∷ [])
one_of_each_is_distinct zero zero x y e f s = refl
one_of_each_is_distinct (suc zero) (suc zero) x y e f s = refl
one_of_each_is_distinct zero (suc zero) x y e f s =
    let m : x ≡ 4 = cc in let n : y ≡ 5 = cc in
    let equal : compare 4 5 ≡ Equal = subst (λ k. compare 4 k ≡ Equal) n (subst (λ k. compare k y ≡ Equal) m s) in absurd (cc)
one_of_each_is_distinct (suc zero) zero x y e f s =
    let m : x ≡ 5 = cc in let n : y ≡ 4 = cc in
    let equal : compare 5 4 ≡ Equal = subst (λ k. compare 5 k ≡ Equal) n (subst (λ k. compare k y ≡ Equal) m s) in absurd (cc)
one_of_each_is_distinct (suc (suc i)) j x y e f s = absurd (cc)
one_of_each_is_distinct zero (suc (suc j)) x y e f s = absurd (cc)
one_of_each_is_distinct (suc zero) (suc (suc j)) x y e f s = absurd (cc)

two_equal_kernels_are_not_distinct : ¬ AreDistinct compare (4 ∷ 6 ∷ [])
two_equal_kernels_are_not_distinct d = let e = d 0 1 4 6 refl refl refl in omega (arith, e)

-- a new kernel is added last, an equal one is not added again
new_kernel_is_added_last : added compare (4 ∷ []) 5 ≡ 4 ∷ 5 ∷ []
new_kernel_is_added_last = refl

equal_kernel_is_not_added_again : added compare (4 ∷ 5 ∷ []) 6 ≡ 4 ∷ 5 ∷ []
equal_kernel_is_not_added_again = refl

-- 4 and its clone 4 are equal, 4 and 5 aren't
copies_equal_their_source : ClonesEqual compare (λ x y. (x ≡ 4) × (y ≡ 4))
copies_equal_their_source x y h = rw (h.0, h.1) refl

changed_copies_do_not_equal_their_source : ¬ ClonesEqual compare (λ x y. (x ≡ 4) × (y ≡ 5))
changed_copies_do_not_equal_their_source c = let equal : compare 4 5 ≡ Equal = c 4 5 (refl, refl) in absurd (cc)

-- the place moves on if there was a kernel, and stays at the end
place_moves_on : moved {K = ℕ} (record { list = 4 ∷ []; place = 0 }) (Some 4) ≡ record { list = 4 ∷ []; place = 1 }
place_moves_on = refl

place_stays_at_the_end : moved {K = ℕ} (record { list = 4 ∷ []; place = 1 }) None ≡ record { list = 4 ∷ []; place = 1 }
place_stays_at_the_end = refl
