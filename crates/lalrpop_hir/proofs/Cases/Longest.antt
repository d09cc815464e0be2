-- Cases of specs/Longest.antt: the text `ab` and the literal `a`.
use Rattle.std.proofs.Common.{◌≡◌, ℕ, zero, suc, ◌≤◌, List, [], ◌∷◌, ◌++◌, length, get_or, true, Some, None, slice_index, refl, sym, ap, subst, ◌∙◌, arith}
use Rattle.std.specs.Str.{chars}
use Rattle.lalrpop_hir.specs.Tree.{Tree, literal, repetition}
use Rattle.lalrpop_hir.specs.Language.{Matches}
use Rattle.lalrpop_hir.specs.Winners.{TreeMatches}
use Rattle.lalrpop_hir.specs.Longest.{IsMatch, IsLongest}

abbrev a : Tree
a = literal (97 ∷ [])

chars_a : chars (97 ∷ []) ≡ 97 ∷ []
unfolding chars
chars_a = refl

chars_ab : chars (97 ∷ 98 ∷ []) ≡ 97 ∷ 98 ∷ []
unfolding chars
chars_ab = refl

chars_b : chars (98 ∷ []) ≡ 98 ∷ []
unfolding chars
chars_b = refl

a_is_not_b : ◌≡◌ {A = List ℕ} (97 ∷ []) (98 ∷ []) → ⊥
a_is_not_b e = let n : 97 ≡ 98 = ap (λ v. get_or v 0 0) e in omega (arith, n)

ab_is_not_a : ◌≡◌ {A = List ℕ} (97 ∷ 98 ∷ []) (97 ∷ []) → ⊥
ab_is_not_a e = let n : 2 ≡ 1 = ap length e in omega (arith, n)

-- `a` is a prefix of `ab` that some tree matches
pub prefix_that_matches : IsMatch (a ∷ []) (97 ∷ 98 ∷ []) (97 ∷ [])
unfolding lib.Utf8.encode
prefix_that_matches = ((98 ∷ [], (refl, (97 ∷ [], (refl, refl)))), (λ e. cc), (0, (a, (refl, chars_a))))

-- the empty prefix is not a match, even if a tree matches the empty word
empty_prefix_is_no_match : ¬ IsMatch (repetition 0 None true a ∷ []) (97 ∷ 98 ∷ []) []
empty_prefix_is_no_match m = m.1 refl

-- and `b` is not a prefix
part_inside_is_no_match : ¬ IsMatch (literal (98 ∷ []) ∷ []) (97 ∷ 98 ∷ []) (98 ∷ [])
part_inside_is_no_match m = let n : 97 ≡ 98 = ap (λ v. get_or v 0 0) m.0.1.0 in omega (arith, n)

only_a_matches : (w : List ℕ) (i : ℕ) → TreeMatches (a ∷ []) w i → (w ≡ 97 ∷ []) × (i ≡ 0)
only_a_matches w zero h = (same a h.0 h.1.0 h.1.1, refl)
  where
    same : (s r : Tree) → Some s ≡ Some r → Matches r w → Matches s w
    same s r e m = let f : r ≡ s = cc in subst (λ x. Matches x w) f m
only_a_matches w (suc n) h = let e : None ≡ Some h.0 = h.1.0 in absurd (cc)

nothing_before : (p q : List ℕ) → [] ≡ p ++ q → p ≡ []
nothing_before [] q e = refl
nothing_before (x ∷ p) q e = absurd (cc)

-- no match has more bytes than one
one_byte : (p : List ℕ) → IsMatch (a ∷ []) (97 ∷ 98 ∷ []) p → length p ≤ 1
one_byte [] m = omega arith
one_byte (x ∷ []) m = omega arith
one_byte (x ∷ y ∷ p) m =
    let text : 97 ∷ 98 ∷ [] ≡ x ∷ y ∷ (p ++ m.0.0) = m.0.1.0 in
    let first : x ≡ 97 = cc in
    let second : y ≡ 98 = cc in
    let rest : [] ≡ p ++ m.0.0 = cc in
    let none : p ≡ [] = nothing_before p m.0.0 rest in
    let whole : x ∷ y ∷ p ≡ 97 ∷ 98 ∷ [] = cc in
    let word : chars (x ∷ y ∷ p) ≡ 97 ∷ [] = (only_a_matches (chars (x ∷ y ∷ p)) m.2.0 m.2.1).0 in
    let same : 97 ∷ 98 ∷ [] ≡ 97 ∷ [] = sym chars_ab ∙ sym (ap chars whole) ∙ word in
    absurd (ab_is_not_a same)

-- so it is the longest
longest_match_is_a : IsLongest (a ∷ []) (0 ∷ []) (97 ∷ 98 ∷ []) (Some (0, 97 ∷ []))
longest_match_is_a = (prefix_that_matches, one_byte, (((a, (refl, chars_a)), λ j h. omega (arith, zeros j)), λ j t. omega (arith, (only_a_matches (chars (97 ∷ [])) j t.0).1)))
  where
    zeros : (j : ℕ) → slice_index (0 ∷ []) j ≡ 0
    zeros zero = refl
    zeros (suc j) = refl

-- and there is one: neither the empty prefix nor the whole text
longest_match_is_not_none : ¬ IsLongest (a ∷ []) (0 ∷ []) (97 ∷ 98 ∷ []) None
longest_match_is_not_none h = h (97 ∷ []) prefix_that_matches

longest_match_is_not_empty : (i : ℕ) → ¬ IsLongest (a ∷ []) (0 ∷ []) (97 ∷ 98 ∷ []) (Some (i, []))
longest_match_is_not_empty i h = h.0.1 refl

longest_match_is_not_the_whole_text : (i : ℕ) → ¬ IsLongest (a ∷ []) (0 ∷ []) (97 ∷ 98 ∷ []) (Some (i, 97 ∷ 98 ∷ []))
longest_match_is_not_the_whole_text i h = omega (arith, one_byte (97 ∷ 98 ∷ []) h.0)

-- of two equal trees with equal precedences the later one is named
earlier_tree_is_not_named : ¬ IsLongest (a ∷ a ∷ []) (0 ∷ 0 ∷ []) (97 ∷ 98 ∷ []) (Some (0, 97 ∷ []))
earlier_tree_is_not_named h = let l = h.2.1 1 ((a, (refl, chars_a)), λ j w. omega (arith, zeros j)) in omega (arith, l)
  where
    zeros : (j : ℕ) → slice_index (0 ∷ 0 ∷ []) j ≡ 0
    zeros zero = refl
    zeros (suc zero) = refl
    zeros (suc (suc j)) = refl

-- `b` has no match
no_match_in_b : IsLongest (a ∷ []) (0 ∷ []) (98 ∷ []) None
no_match_in_b [] m = m.1 refl
no_match_in_b (x ∷ p) m =
    let text : 98 ∷ [] ≡ x ∷ (p ++ m.0.0) = m.0.1.0 in
    let first : x ≡ 98 = cc in
    let rest : [] ≡ p ++ m.0.0 = cc in
    let none : p ≡ [] = nothing_before p m.0.0 rest in
    let whole : x ∷ p ≡ 98 ∷ [] = cc in
    let word : chars (x ∷ p) ≡ 97 ∷ [] = (only_a_matches (chars (x ∷ p)) m.2.0 m.2.1).0 in
    let both : 97 ∷ [] ≡ 98 ∷ [] = sym word ∙ ap chars whole ∙ chars_b in
    a_is_not_b both
