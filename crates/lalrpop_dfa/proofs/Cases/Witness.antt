-- Cases of specs/Witness.antt: two words, `a` and `abc`.
use Rattle.std.proofs.Common.{◌≡◌, ◌≢◌, ℕ, ◌⊎◌, inl, inr, List, [], ◌∷◌, ◌++◌, length, refl, ap, lit≤, arith, length-append}
use Rattle.lalrpop_hir.specs.Word.{Shortlex}
use Rattle.lalrpop_dfa.specs.Witness.{IsOpenMatch, IsWitness}

abbrev Two : List ℕ → Type 0
Two w = (w ≡ 97 ∷ []) ⊎ (w ≡ 97 ∷ 98 ∷ 99 ∷ [])

b_leaves_it_open : IsOpenMatch Two 1 (97 ∷ []) (98 ∷ [])
b_leaves_it_open = record {
  word = (lit≤ tt, tt);
  values = (lit≤ tt, tt);
  leaves_open = record { some = λ e. cc; word = inl refl; long = refl; none = none; later = (99 ∷ [], inr refl) };
}
  where
    none : (u z : List ℕ) → 98 ∷ [] ≡ u ++ z → u ≢ [] → ¬ Two ((97 ∷ []) ++ u)
    none [] z e some m = some refl
    none (c ∷ u) z e some (inl is) = cc
    none (c ∷ []) z e some (inr is) = cc
    none (c ∷ d ∷ u) z e some (inr is) = absurd (omega (arith, ap length e, length-append u z))

one_value_is_not_two : ¬ IsOpenMatch Two 2 (97 ∷ []) (98 ∷ [])
one_value_is_not_two h = omega (arith, h.leaves_open.long)

the_empty_word_is_no_match : ¬ IsOpenMatch Two 1 [] (98 ∷ [])
the_empty_word_is_no_match h = h.leaves_open.some refl

values_fit_32_bits : ¬ IsOpenMatch Two 1 (97 ∷ []) (4294967296 ∷ [])
values_fit_32_bits h = omega (arith, h.values.0)

no_less_word : (u y : List ℕ) → Shortlex u (97 ∷ []) → ¬ IsOpenMatch Two 1 u y
no_less_word [] y less o = o.leaves_open.some refl
no_less_word (c ∷ u) y (inl l) o = omega (arith, l)
no_less_word (c ∷ []) y (inr (same, inl l)) o = by_word o.leaves_open.word
  where
    by_word : Two (c ∷ []) → ⊥
    by_word (inl e) = let f : c ≡ 97 = cc in omega arith
    by_word (inr e) = cc
no_less_word (c ∷ []) y (inr (same, inr l)) o = l.1
no_less_word (c ∷ d ∷ u) y (inr (same, l)) o = omega (arith, same)

no_less_values : (u : List ℕ) → Shortlex u (98 ∷ []) → ¬ IsOpenMatch Two 1 (97 ∷ []) u
no_less_values u (inl l) o = omega (arith, l, o.leaves_open.long)
no_less_values [] (inr (same, l)) o = omega (arith, same)
no_less_values (c ∷ []) (inr (same, inl l)) o = by_word o.leaves_open.later.0 o.leaves_open.later.1
  where
    by_word : (z : List ℕ) → Two (97 ∷ c ∷ z) → ⊥
    by_word z (inl e) = cc
    by_word z (inr e) = let f : c ≡ 98 = cc in omega arith
no_less_values (c ∷ []) (inr (same, inr l)) o = l.1
no_less_values (c ∷ d ∷ u) (inr (same, l)) o = omega (arith, same)

the_witness : IsWitness Two 1 (97 ∷ []) (98 ∷ [])
the_witness = record {
  word = record { holds = (98 ∷ [], b_leaves_it_open); least = λ u less (y, o). no_less_word u y less o };
  after = record { holds = b_leaves_it_open; least = no_less_values };
}
