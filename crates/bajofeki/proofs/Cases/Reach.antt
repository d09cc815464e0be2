-- Cases of specs/Reach.antt: the literals `a`, `ab` and `b`.
use Rattle.std.proofs.Common.{◌≡◌, ℕ, zero, suc, ◌+◌, ◌-◌, ◌<◌, ◌≤◌, ◌⊎◌, inl, inr, List, [], ◌∷◌, length, get_or, drop, codes, refl, sym, ap, subst, ◌∙◌, arith, length-drop}
use Rattle.std.specs.List.{All}
use Rattle.std.specs.Str.{chars}
use Rattle.std.proofs.lemmas.List.Elements.{All-nil, All-cons}
use Rattle.std.proofs.lemmas.Str.{chars-nil}
use Rattle.lalrpop_hir.specs.Tree.{Tree, literal}
use Rattle.lalrpop_hir.specs.Language.{Matches}
use Rattle.lalrpop_hir.specs.Winners.{Matched}
use Rattle.lalrpop_hir.specs.Longest.{IsMatch}
use Rattle.bajofeki.specs.Internal.Reach.{AreAlike, IsClosed, IsSettledBy, IsFaultSettledBy}

abbrev pub a : Tree
a = literal (97 ∷ [])

abbrev pub ab : Tree
ab = literal (97 ∷ 98 ∷ [])

abbrev pub b : Tree
b = literal (98 ∷ [])

pub chars_a : chars (97 ∷ []) ≡ 97 ∷ []
unfolding chars
chars_a = refl

pub chars_b : chars (98 ∷ []) ≡ 98 ∷ []
unfolding chars
chars_b = refl

-- ---- texts that are alike

alike_in_two_bytes : AreAlike 2 (codes "abc") (codes "abd")
alike_in_two_bytes = refl

not_in_three : ¬ AreAlike 3 (codes "abc") (codes "abd")
not_in_three e = let n : 99 ≡ 100 = ap (λ (v : List ℕ). get_or v 2 0) e in omega (arith, n)

-- where the one ends is seen by the byte after
end_unseen : AreAlike 2 (codes "ab") (codes "abc")
end_unseen = refl

end_seen : ¬ AreAlike 3 (codes "ab") (codes "abc")
end_seen e = let n : 2 ≡ 3 = ap length e in omega (arith, n)

-- ---- words that no tree matches more of

below : (c : ℕ) → c < 1114112 → All (λ n. n < 1114112) (c ∷ [])
below c l = All-cons (λ n. n < 1114112) c [] l (All-nil (λ n. n < 1114112))

-- a tree of two
pub one_of_two : (t u : Tree) (w : List ℕ) → Matched (t ∷ u ∷ []) w → Matches t w ⊎ Matches u w
one_of_two t u w (zero, m) = inl (let same : m.0 ≡ t = cc (m.1.0) in subst (λ (s : Tree). Matches s w) same m.1.1)
one_of_two t u w (suc zero, m) = inr (let same : m.0 ≡ u = cc (m.1.0) in subst (λ (s : Tree). Matches s w) same m.1.1)
one_of_two t u w (suc (suc i), m) = absurd (cc (m.1.0))

-- no tree matches a word of two characters or more
pub a_is_closed : IsClosed (a ∷ b ∷ []) (97 ∷ [])
a_is_closed [] scalars some m = some refl
a_is_closed (c ∷ v) scalars some m = by_tree (one_of_two a b (97 ∷ c ∷ v) m)
  where
    by_tree : (97 ∷ c ∷ v ≡ 97 ∷ []) ⊎ (97 ∷ c ∷ v ≡ 98 ∷ []) → ⊥
    by_tree (inl e) = let n : suc (suc (length v)) ≡ 1 = ap length e in omega (arith, n)
    by_tree (inr e) = let n : suc (suc (length v)) ≡ 1 = ap length e in omega (arith, n)

a_is_not_closed : ¬ IsClosed (a ∷ ab ∷ []) (97 ∷ [])
a_is_not_closed closed = closed (98 ∷ []) (below 98 (omega arith)) (λ e. let n : 1 ≡ 0 = ap length e in omega (arith, n)) (1, (ab, (refl, refl)))

-- what no tree matches is closed too
pub b_is_closed : IsClosed (a ∷ ab ∷ []) (98 ∷ [])
b_is_closed v scalars some m = by_tree (one_of_two a ab (98 ∷ v) m)
  where
    by_tree : (98 ∷ v ≡ 97 ∷ []) ⊎ (98 ∷ v ≡ 97 ∷ 98 ∷ []) → ⊥
    by_tree (inl e) = let n : 98 ≡ 97 = ap (λ (w : List ℕ). get_or w 0 0) e in omega (arith, n)
    by_tree (inr e) = let n : 98 ≡ 97 = ap (λ (w : List ℕ). get_or w 0 0) e in omega (arith, n)

empty_word_is_not_closed : ¬ IsClosed (a ∷ ab ∷ []) []
empty_word_is_not_closed closed = closed (97 ∷ []) (below 97 (omega arith)) (λ e. let n : 1 ≡ 0 = ap length e in omega (arith, n)) (0, (a, (refl, refl)))

-- ---- what settles the longest match

-- the first byte, if nothing longer matches
pub first_byte_settles : IsSettledBy (a ∷ b ∷ []) (codes "ab") 1
unfolding lib.Utf8.encode
first_byte_settles = inr (97 ∷ [], ((98 ∷ [], (refl, (97 ∷ [], (refl, refl)))), omega arith, subst (IsClosed (a ∷ b ∷ [])) (sym chars_a) a_is_closed))

-- not if something longer may match: neither the empty word nor `a` is closed
first_byte_does_not : ¬ IsSettledBy (a ∷ ab ∷ []) (codes "ac") 1
first_byte_does_not (inl seen) = omega (arith, seen)
first_byte_does_not (inr ([], s)) = empty_word_is_not_closed (subst (IsClosed (a ∷ ab ∷ [])) chars-nil s.2)
first_byte_does_not (inr (c ∷ [], s)) =
    let one : 97 ≡ c = ap (λ (v : List ℕ). get_or v 0 0) s.0.1.0 in
    let word : c ∷ [] ≡ 97 ∷ [] = ap (λ (n : ℕ). n ∷ []) (sym one) in
    a_is_not_closed (subst (IsClosed (a ∷ ab ∷ [])) (ap chars word ∙ chars_a) s.2)
first_byte_does_not (inr (c ∷ d ∷ u, s)) = omega (arith, s.1)

-- at the end of the text it must be seen
end_settles : (ts : List Tree) → IsSettledBy ts (codes "a") 2
end_settles ts = inl (omega arith)

nothing_read : ¬ IsSettledBy (a ∷ ab ∷ []) [] 0
nothing_read (inl seen) = omega (arith, seen)
nothing_read (inr ([], s)) = empty_word_is_not_closed (subst (IsClosed (a ∷ ab ∷ [])) chars-nil s.2)
nothing_read (inr (c ∷ u, s)) = omega (arith, s.1)

-- ---- what settles a fault

at_one : (k : ℕ) → k < 1 → k ≡ 0
at_one k less = omega arith

b_settled : IsSettledBy (a ∷ ab ∷ []) (codes "ba") 1
unfolding lib.Utf8.encode
b_settled = inr (98 ∷ [], ((97 ∷ [], (refl, (98 ∷ [], (refl, refl)))), omega arith, subst (IsClosed (a ∷ ab ∷ [])) (sym chars_b) b_is_closed))

a_behind : IsMatch (a ∷ ab ∷ []) (codes "a") (97 ∷ [])
unfolding lib.Utf8.encode
a_behind = (([], (refl, (97 ∷ [], (refl, refl)))), (λ e. let n : 1 ≡ 0 = ap length e in omega (arith, n)), (0, (a, (refl, chars_a))))

-- `b` before `a`: the match is read, however it goes on
fault_before_a_match : IsFaultSettledBy (a ∷ ab ∷ []) (codes "ba") (codes "b") 2
fault_before_a_match = record {
  each = λ k less here. (1, (omega (arith, less), subst (λ (n : ℕ). IsSettledBy (a ∷ ab ∷ []) (drop n (codes "ba")) 1) (sym (at_one k less)) b_settled));
  ends = inr (97 ∷ [], (a_behind, omega arith));
}

match_unread : (ts : List Tree) → ¬ IsFaultSettledBy ts (codes "ba") (codes "b") 1
match_unread ts settled = by_end settled.ends
  where
    by_end : (2 < 1) ⊎ ((p : List ℕ) × (IsMatch ts (codes "a") p × (1 + length p ≤ 1))) → ⊥
    by_end (inl seen) = omega (arith, seen)
    by_end (inr ([], e)) = e.0.1 refl
    by_end (inr (c ∷ p, e)) = omega (arith, e.1)

-- up to the end of the text: the end must be seen
fault_to_the_end : (ts : List Tree) → IsFaultSettledBy ts (codes "b") (codes "b") 2
fault_to_the_end ts = record { each = λ k less here. (2 - k, (omega (arith, less), inl (omega (arith, less, length-drop k (codes "b"))))); ends = inl (omega arith) }

end_of_fault_unseen : (ts : List Tree) → ¬ IsFaultSettledBy ts (codes "b") (codes "b") 1
end_of_fault_unseen ts settled = by_end settled.ends
  where
    by_end : (1 < 1) ⊎ ((p : List ℕ) × (IsMatch ts [] p × (1 + length p ≤ 1))) → ⊥
    by_end (inl seen) = omega (arith, seen)
    by_end (inr ([], e)) = e.0.1 refl
    by_end (inr (c ∷ p, e)) = omega (arith, e.1)
