-- Cases of specs/Word.antt.
use Rattle.std.proofs.Common.{inl, inr, [], ◌∷◌, refl, arith}
use Rattle.lalrpop_hir.specs.Word.{IsWord, FirstDifferenceLess, Shortlex}

-- the empty word is a word
empty_word_is_a_word : IsWord []
empty_word_is_a_word = tt

-- the greatest value of 32 bits can be in a word
greatest_value_is_in_a_word : IsWord (97 ∷ 4294967295 ∷ [])
greatest_value_is_in_a_word = (omega arith, (omega arith, tt))

-- a greater one can't
value_beyond_32_bits_is_in_no_word : ¬ IsWord (97 ∷ 4294967296 ∷ [])
value_beyond_32_bits_is_in_no_word h = omega (arith, h.1.0)

-- `aab` is less than `ab`: the first place where they differ decides
first_difference_decides : FirstDifferenceLess (97 ∷ 97 ∷ 98 ∷ []) (97 ∷ 98 ∷ [])
first_difference_decides = inr (refl, inl (omega arith))

-- `ba` isn't less than `ab`
later_place_decides_nothing : ¬ FirstDifferenceLess (98 ∷ 97 ∷ []) (97 ∷ 98 ∷ [])
later_place_decides_nothing (inl h) = omega arith
later_place_decides_nothing (inr h) = omega (arith, h.0)

-- `a` and `ab` differ at no place
prefix_has_no_difference : ¬ FirstDifferenceLess (97 ∷ []) (97 ∷ 98 ∷ [])
prefix_has_no_difference (inl h) = omega arith
prefix_has_no_difference (inr h) = h.1

-- `b` comes before `aa`: length counts first
shorter_comes_first : Shortlex (98 ∷ []) (97 ∷ 97 ∷ [])
shorter_comes_first = inl (omega arith)

-- and `aa` doesn't come before `b`
longer_does_not_come_first : ¬ Shortlex (97 ∷ 97 ∷ []) (98 ∷ [])
longer_does_not_come_first (inl h) = omega arith
longer_does_not_come_first (inr h) = omega (arith, h.0)

-- of two words of the same length, `ab` comes before `ba`
less_comes_first : Shortlex (97 ∷ 98 ∷ []) (98 ∷ 97 ∷ [])
less_comes_first = inr (refl, inl (omega arith))

-- and `ba` doesn't come before `ab`
greater_does_not_come_first : ¬ Shortlex (98 ∷ 97 ∷ []) (97 ∷ 98 ∷ [])
greater_does_not_come_first (inl h) = omega arith
greater_does_not_come_first (inr h) = later_place_decides_nothing h.1

-- no word comes before the empty one
nothing_comes_before_the_empty_word : ¬ Shortlex [] []
nothing_comes_before_the_empty_word (inl h) = omega arith
nothing_comes_before_the_empty_word (inr h) = h.1
