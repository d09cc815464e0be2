-- Cases of specs/Winners.antt.
use Rattle.std.proofs.Common.{◌≡◌, ℕ, zero, suc, ◌<◌, ◌≤◌, ◌⊎◌, inl, inr, List, [], ◌∷◌, get_or, length, Some, None, slice_index, refl, ap, subst, arith}
use Rattle.lalrpop_hir.specs.Tree.{Tree, literal}
use Rattle.lalrpop_hir.specs.Language.{Matches}
use Rattle.lalrpop_hir.specs.Winners.{TreeMatches, Matched, IsStrongest, IsOnlyStrongest, IsHighestStrongest, Ambiguous}

abbrev pub a : Tree
a = literal (97 ∷ [])

abbrev pub b : Tree
b = literal (98 ∷ [])

-- ---- what matches

-- of two trees one matches
pub one_of_two : (t u : Tree) (w : List ℕ) (i : ℕ) → TreeMatches (t ∷ u ∷ []) w i → ((i ≡ 0) × Matches t w) ⊎ ((i ≡ 1) × Matches u w)
one_of_two t u w i h = by_place i h
  where
    same : (s r : Tree) → Some s ≡ Some r → Matches r w → Matches s w
    same s r e m = let f : r ≡ s = cc in subst (λ x. Matches x w) f m

    by_place : (i : ℕ) → TreeMatches (t ∷ u ∷ []) w i → ((i ≡ 0) × Matches t w) ⊎ ((i ≡ 1) × Matches u w)
    by_place zero h = inl (refl, same t h.0 h.1.0 h.1.1)
    by_place (suc zero) h = inr (refl, same u h.0 h.1.0 h.1.1)
    by_place (suc (suc n)) h = let e : None ≡ Some h.0 = h.1.0 in absurd (cc)

a_is_not_b : (w : List ℕ) → w ≡ 97 ∷ [] → w ≡ 98 ∷ [] → ⊥
a_is_not_b w e f = unlike (get_or w 0 0) (ap (λ v. get_or v 0 0) e) (ap (λ v. get_or v 0 0) f)
  where
    unlike : (n : ℕ) → n ≡ 97 → n ≡ 98 → ⊥
    unlike n e f = omega arith

-- the first matches `a`, and the second doesn't
first_tree_matches : TreeMatches (a ∷ b ∷ []) (97 ∷ []) 0
first_tree_matches = (a, (refl, refl))

pub second_tree_does_not_match : ¬ TreeMatches (a ∷ b ∷ []) (97 ∷ []) 1
second_tree_does_not_match h = by_tree 1 (omega arith) (one_of_two a b (97 ∷ []) 1 h)
  where
    by_tree : (i : ℕ) → 0 < i → ((i ≡ 0) × Matches a (97 ∷ [])) ⊎ ((i ≡ 1) × Matches b (97 ∷ [])) → ⊥
    by_tree i p (inl m) = omega (arith, p, m.0)
    by_tree i p (inr m) = a_is_not_b (97 ∷ []) refl m.1

-- there is no tree after the last
no_tree_behind_the_last : ¬ TreeMatches (a ∷ b ∷ []) (97 ∷ []) 2
no_tree_behind_the_last h = let e : None ≡ Some h.0 = h.1.0 in absurd (cc)

-- `a` or `b` matches `b`, and neither matches `ab`
some_tree_matches : Matched (a ∷ b ∷ []) (98 ∷ [])
some_tree_matches = (1, (b, (refl, refl)))

no_tree_matches : ¬ Matched (a ∷ b ∷ []) (97 ∷ 98 ∷ [])
no_tree_matches m = by_tree (one_of_two a b (97 ∷ 98 ∷ []) m.0 m.1)
  where
    by_tree : ((m.0 ≡ 0) × Matches a (97 ∷ 98 ∷ [])) ⊎ ((m.0 ≡ 1) × Matches b (97 ∷ 98 ∷ [])) → ⊥
    by_tree (inl h) = let n : 2 ≡ 1 = ap length h.1 in omega (arith, n)
    by_tree (inr h) = let n : 2 ≡ 1 = ap length h.1 in omega (arith, n)

-- ---- the strongest, with precedences

-- `a` twice, the second with the greater precedence
greater_precedence_is_stronger : IsStrongest (a ∷ a ∷ []) (0 ∷ 1 ∷ []) (97 ∷ []) 1
greater_precedence_is_stronger = ((a, (refl, refl)), least)
  where
    least : (j : ℕ) → TreeMatches (a ∷ a ∷ []) (97 ∷ []) j → slice_index (0 ∷ 1 ∷ []) j ≤ 1
    least zero h = omega arith
    least (suc zero) h = omega arith
    least (suc (suc n)) h = omega arith

less_precedence_is_not_strongest : ¬ IsStrongest (a ∷ a ∷ []) (0 ∷ 1 ∷ []) (97 ∷ []) 0
less_precedence_is_not_strongest t = let l : 1 ≤ 0 = t.1 1 (a, (refl, refl)) in omega (arith, l)

-- a tree that doesn't match is never the strongest, whatever its precedence
stronger_tree_that_does_not_match : IsStrongest (a ∷ b ∷ []) (0 ∷ 1 ∷ []) (97 ∷ []) 0
stronger_tree_that_does_not_match = ((a, (refl, refl)), least)
  where
    least : (j : ℕ) → TreeMatches (a ∷ b ∷ []) (97 ∷ []) j → slice_index (0 ∷ 1 ∷ []) j ≤ 0
    least zero h = omega arith
    least (suc zero) h = absurd (second_tree_does_not_match h)
    least (suc (suc n)) h = omega arith

strongest_tree_matches : ¬ IsStrongest (a ∷ b ∷ []) (0 ∷ 1 ∷ []) (97 ∷ []) 1
strongest_tree_matches t = second_tree_does_not_match t.0

-- ---- ties

-- the precedence 0 of two trees
pub both_zero : (i : ℕ) → slice_index (0 ∷ 0 ∷ []) i ≡ 0
both_zero zero = refl
both_zero (suc zero) = refl
both_zero (suc (suc n)) = refl

-- `a` twice, with equal precedences: both are the strongest
pub both_are_strongest : IsStrongest (a ∷ a ∷ []) (0 ∷ 0 ∷ []) (97 ∷ []) 0 × IsStrongest (a ∷ a ∷ []) (0 ∷ 0 ∷ []) (97 ∷ []) 1
both_are_strongest = (((a, (refl, refl)), λ j h. omega (arith, both_zero j)), ((a, (refl, refl)), λ j h. omega (arith, both_zero j)))

-- so neither is the only one, and the second is the greatest of them
neither_is_the_only_one : (i : ℕ) → ¬ IsOnlyStrongest (a ∷ a ∷ []) (0 ∷ 0 ∷ []) (97 ∷ []) i
neither_is_the_only_one i o = let e = o.1 0 both_are_strongest.0 in let f = o.1 1 both_are_strongest.1 in omega (arith, e, f)

second_is_the_greatest : IsHighestStrongest (a ∷ a ∷ []) (0 ∷ 0 ∷ []) (97 ∷ []) 1
second_is_the_greatest = (both_are_strongest.1, greatest)
  where
    greatest : (j : ℕ) → IsStrongest (a ∷ a ∷ []) (0 ∷ 0 ∷ []) (97 ∷ []) j → j ≤ 1
    greatest zero t = omega arith
    greatest (suc zero) t = omega arith
    greatest (suc (suc n)) t = let e : None ≡ Some t.0.0 = t.0.1.0 in absurd (cc)

first_is_not_the_greatest : ¬ IsHighestStrongest (a ∷ a ∷ []) (0 ∷ 0 ∷ []) (97 ∷ []) 0
first_is_not_the_greatest g = let l = g.1 1 both_are_strongest.1 in omega (arith, l)

-- of `a` and `b` only the first matches `a`
the_one_that_matches_is_the_only_one : IsOnlyStrongest (a ∷ b ∷ []) (0 ∷ 0 ∷ []) (97 ∷ []) 0
the_one_that_matches_is_the_only_one = (((a, (refl, refl)), λ j h. omega (arith, both_zero j)), only)
  where
    only : (j : ℕ) → IsStrongest (a ∷ b ∷ []) (0 ∷ 0 ∷ []) (97 ∷ []) j → j ≡ 0
    only zero t = refl
    only (suc zero) t = absurd (second_tree_does_not_match t.0)
    only (suc (suc n)) t = let e : None ≡ Some t.0.0 = t.0.1.0 in absurd (cc)

-- ---- ambiguous words

pub equal_precedences_are_ambiguous : Ambiguous (a ∷ a ∷ []) (0 ∷ 0 ∷ []) (97 ∷ [])
equal_precedences_are_ambiguous = (1, 0, (omega arith, both_are_strongest.1, both_are_strongest.0))

-- a greater precedence decides
pub unequal_precedences_are_not_ambiguous : (w : List ℕ) → ¬ Ambiguous (a ∷ a ∷ []) (0 ∷ 1 ∷ []) w
unequal_precedences_are_not_ambiguous w (i, j, h) = by_tree (one_of_two a a w i h.1.0) (one_of_two a a w j h.2.0)
  where
    by_tree : ((i ≡ 0) × Matches a w) ⊎ ((i ≡ 1) × Matches a w) → ((j ≡ 0) × Matches a w) ⊎ ((j ≡ 1) × Matches a w) → ⊥
    by_tree (inl m) n = omega (arith, m.0, h.0)
    by_tree (inr m) (inr n) = omega (arith, m.0, n.0, h.0)
    by_tree (inr m) (inl n) =
        let one : TreeMatches (a ∷ a ∷ []) w 1 = (a, (refl, m.1)) in
        let l : 1 ≤ slice_index (0 ∷ 1 ∷ []) j = h.2.1 1 one in
        let z : slice_index (0 ∷ 1 ∷ []) j ≡ 0 = ap (slice_index (0 ∷ 1 ∷ [])) n.0 in
        omega (arith, l, z)

-- `a` and `b` have no word in common
pub trees_without_a_common_word_are_not_ambiguous : (w : List ℕ) → ¬ Ambiguous (a ∷ b ∷ []) (0 ∷ 0 ∷ []) w
trees_without_a_common_word_are_not_ambiguous w (i, j, h) = by_tree (one_of_two a b w i h.1.0) (one_of_two a b w j h.2.0)
  where
    by_tree : ((i ≡ 0) × Matches a w) ⊎ ((i ≡ 1) × Matches b w) → ((j ≡ 0) × Matches a w) ⊎ ((j ≡ 1) × Matches b w) → ⊥
    by_tree (inl m) n = omega (arith, m.0, h.0)
    by_tree (inr m) (inr n) = omega (arith, m.0, n.0, h.0)
    by_tree (inr m) (inl n) = a_is_not_b w n.1 m.1
