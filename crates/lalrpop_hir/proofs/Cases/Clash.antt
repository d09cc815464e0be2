-- Cases of specs/Clash.antt.
use Rattle.std.proofs.Common.{◌≡◌, ℕ, zero, suc, ◌≤◌, ◌⊎◌, inl, inr, List, [], ◌∷◌, true, Some, None, slice_index, refl, subst, arith}
use Rattle.lalrpop_hir.specs.Word.{FirstDifferenceLess, Shortlex}
use Rattle.lalrpop_hir.specs.Tree.{Tree, repetition}
use Rattle.lalrpop_hir.specs.Language.{Matches}
use Rattle.lalrpop_hir.proofs.Words.{Shortlex-irreflexive}
use Rattle.lalrpop_hir.specs.Winners.{TreeMatches, Ambiguous}
use Rattle.lalrpop_hir.specs.Clash.{NoClash, IsClash}
use Rattle.lalrpop_hir.proofs.Cases.Winners.{a, b, one_of_two, both_zero, both_are_strongest, equal_precedences_are_ambiguous, unequal_precedences_are_not_ambiguous, trees_without_a_common_word_are_not_ambiguous}

pub who_matches_a : (w : List ℕ) (i : ℕ) → TreeMatches (a ∷ a ∷ []) w i → (w ≡ 97 ∷ []) × (i ≤ 1)
who_matches_a w i h = by_tree (one_of_two a a w i h)
  where
    by_tree : ((i ≡ 0) × Matches a w) ⊎ ((i ≡ 1) × Matches a w) → (w ≡ 97 ∷ []) × (i ≤ 1)
    by_tree (inl m) = (m.1, omega (arith, m.0))
    by_tree (inr m) = (m.1, omega (arith, m.0))

-- two equal literals clash on their word, the later one first
pub equal_literals_clash : IsClash (a ∷ a ∷ []) (0 ∷ 0 ∷ []) (97 ∷ []) 1 0
equal_literals_clash = record {
  word = (omega arith, tt);
  least = λ v s m. Shortlex-irreflexive (97 ∷ []) (subst (λ u. Shortlex u (97 ∷ [])) (who_matches_a v m.0 m.2.1.0).0 s);
  greatest = both_are_strongest.1;
  second = both_are_strongest.0;
  less = omega arith;
  others = λ k t l. omega arith;
  above = λ k t. (who_matches_a (97 ∷ []) k t.0).1;
}

equal_literals_do_not_clash_turned : ¬ IsClash (a ∷ a ∷ []) (0 ∷ 0 ∷ []) (97 ∷ []) 0 1
equal_literals_do_not_clash_turned c = omega (arith, c.less)

equal_literals_do_not_clash_elsewhere : (w : List ℕ) (i j : ℕ) → IsClash (a ∷ a ∷ []) (0 ∷ 0 ∷ []) w i j → w ≡ 97 ∷ []
equal_literals_do_not_clash_elsewhere w i j c = (who_matches_a w i c.greatest.0).0

-- `a*` and `b*` have the empty word in common
clash_on_the_empty_word : IsClash (repetition 0 None true a ∷ repetition 0 None true b ∷ []) (0 ∷ 0 ∷ []) [] 1 0
clash_on_the_empty_word = record {
  word = tt;
  least = λ v s m. nothing_less v s;
  greatest = ((repetition 0 None true b, (refl, (0, (omega arith, refl)))), λ j h. omega (arith, both_zero j));
  second = ((repetition 0 None true a, (refl, (0, (omega arith, refl)))), λ j h. omega (arith, both_zero j));
  less = omega arith;
  others = λ k t l. omega arith;
  above = λ k t. two k t.0;
}
  where
    nothing_less : (v : List ℕ) → ¬ Shortlex v []
    nothing_less v (inl h) = omega arith
    nothing_less [] (inr h) = h.1
    nothing_less (c ∷ v) (inr h) = h.1

    two : (k : ℕ) → TreeMatches (repetition 0 None true a ∷ repetition 0 None true b ∷ []) [] k → k ≤ 1
    two zero h = omega arith
    two (suc zero) h = omega arith
    two (suc (suc n)) h = let e : None ≡ Some h.0 = h.1.0 in absurd (cc)

-- two equal literals clash with equal precedences and not with different ones; two different literals don't
equal_literals_have_a_clash : ¬ NoClash (a ∷ a ∷ []) (0 ∷ 0 ∷ [])
equal_literals_have_a_clash n = n (97 ∷ []) equal_precedences_are_ambiguous

precedences_decide : NoClash (a ∷ a ∷ []) (0 ∷ 1 ∷ [])
precedences_decide = λ w. unequal_precedences_are_not_ambiguous w

pub different_literals_have_no_clash : NoClash (a ∷ b ∷ []) (0 ∷ 0 ∷ [])
different_literals_have_no_clash = λ w. trees_without_a_common_word_are_not_ambiguous w

-- `b`, `b`, `a`, `a`, all of precedence 0: the least clash is at `a`
abbrev bbaa : List Tree
bbaa = b ∷ b ∷ a ∷ a ∷ []

abbrev zeros : List ℕ
zeros = 0 ∷ 0 ∷ 0 ∷ 0 ∷ []

matched : (t u : Tree) (w : List ℕ) → Some t ≡ Some u → Matches u w → Matches t w
matched t u w e m = let f : u ≡ t = cc in subst (λ s. Matches s w) f m

word_of : (w : List ℕ) (i : ℕ) → TreeMatches bbaa w i → ((w ≡ 98 ∷ []) × (i ≤ 1)) ⊎ ((w ≡ 97 ∷ []) × (i ≤ 3))
word_of w zero h = inl (matched b h.0 w h.1.0 h.1.1, omega arith)
word_of w (suc zero) h = inl (matched b h.0 w h.1.0 h.1.1, omega arith)
word_of w (suc (suc zero)) h = inr (matched a h.0 w h.1.0 h.1.1, omega arith)
word_of w (suc (suc (suc zero))) h = inr (matched a h.0 w h.1.0 h.1.1, omega arith)
word_of w (suc (suc (suc (suc n)))) h = let e : None ≡ Some h.0 = h.1.0 in absurd (cc)

b-not-less : ¬ Shortlex (98 ∷ []) (97 ∷ [])
b-not-less (inl h) = omega arith
b-not-less (inr h) = by_place h.1
  where
    by_place : FirstDifferenceLess (98 ∷ []) (97 ∷ []) → ⊥
    by_place (inl l) = omega arith
    by_place (inr e) = e.1

no_less : (v : List ℕ) → Shortlex v (97 ∷ []) → ¬ Ambiguous bbaa zeros v
no_less v s a = by_word (word_of v a.0 a.2.1.0)
  where
    by_word : ((v ≡ 98 ∷ []) × (a.0 ≤ 1)) ⊎ ((v ≡ 97 ∷ []) × (a.0 ≤ 3)) → ⊥
    by_word (inl e) = b-not-less (subst (λ w. Shortlex w (97 ∷ [])) e.0 s)
    by_word (inr e) = Shortlex-irreflexive (97 ∷ []) (subst (λ w. Shortlex w (97 ∷ [])) e.0 s)

all_zero : (i : ℕ) → slice_index zeros i ≡ 0
all_zero zero = refl
all_zero (suc zero) = refl
all_zero (suc (suc zero)) = refl
all_zero (suc (suc (suc zero))) = refl
all_zero (suc (suc (suc (suc n)))) = refl

at_most_three : (w : List ℕ) (i : ℕ) → TreeMatches bbaa w i → i ≤ 3
at_most_three w i h = elim (word_of w i h) [ inl e ↦ omega (arith, e.1) | inr e ↦ e.1 ]

least_word_clashes : IsClash bbaa zeros (97 ∷ []) 3 2
least_word_clashes = record {
  word = (omega arith, tt);
  least = no_less;
  greatest = ((a, (refl, refl)), λ j h. omega (arith, all_zero j));
  second = ((a, (refl, refl)), λ j h. omega (arith, all_zero j));
  less = omega arith;
  others = λ k t l. omega arith;
  above = λ k t. at_most_three (97 ∷ []) k t.0;
}
