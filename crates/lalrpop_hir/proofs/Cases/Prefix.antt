-- Cases of specs/Prefix.antt.
use Rattle.std.proofs.Common.{◌≡◌, ℕ, ◌≤◌, List, [], ◌∷◌, ◌++◌, length, get_or, Some, None, codes, refl, ap, ◌∙◌, length-append, arith}
use Rattle.std.specs.Str.{chars}
use Rattle.lalrpop_hir.specs.Prefix.{IsPrefix, IsLongestOf}

-- the empty text, a part and the whole are prefixes
pub prefixes : IsPrefix [] (codes "ab") × IsPrefix (codes "a") (codes "ab") × IsPrefix (codes "ab") (codes "ab")
unfolding lib.Utf8.encode
prefixes = ((codes "ab", (refl, ([], (refl, refl)))), (codes "b", (refl, (codes "a", (refl, refl)))), ([], (refl, (codes "ab", (refl, refl)))))

-- another text isn't a prefix, nor is a longer one
other_text_is_no_prefix : ¬ IsPrefix (codes "b") (codes "ab")
other_text_is_no_prefix h = let n : 97 ≡ 98 = ap (λ u. get_or u 0 0) h.1.0 in omega (arith, n)

longer_text_is_no_prefix : ¬ IsPrefix (codes "abc") (codes "ab")
longer_text_is_no_prefix h = let n : 2 ≡ length (codes "abc" ++ h.0) = ap length h.1.0 in omega (arith, n, length-append (codes "abc") h.0)

-- the words `a` and the empty one
abbrev AtMostA : List ℕ → Type 0
AtMostA w = length w ≤ 1

chars_ab : chars (codes "ab") ≡ codes "ab"
unfolding chars
chars_ab = refl

-- a prefix of `ab` whose word has at most one character has one byte
one_byte : (p : List ℕ) → IsPrefix p (codes "ab") → AtMostA (chars p) → length p ≤ 1
one_byte [] b m = omega arith
one_byte (x ∷ []) b m = omega arith
one_byte (x ∷ y ∷ p) b m = absurd (by_rest (both x y p b.0 b.1.0) m)
  where
    both : (x y : ℕ) (p rest : List ℕ) → codes "ab" ≡ x ∷ y ∷ (p ++ rest) → x ∷ y ∷ p ≡ codes "ab"
    both x y [] rest e = let f : x ≡ 97 = cc in let g : y ≡ 98 = cc in cc
    both x y (z ∷ p) rest e = absurd (cc)

    by_rest : x ∷ y ∷ p ≡ codes "ab" → length (chars (x ∷ y ∷ p)) ≤ 1 → ⊥
    by_rest e l = let n : length (chars (x ∷ y ∷ p)) ≡ 2 = ap length (ap chars e ∙ chars_ab) in omega (arith, n, l)

-- `a` is the longest of these in `ab`
longest_is_a : IsLongestOf AtMostA (codes "ab") (Some (codes "a"))
unfolding chars
longest_is_a = (prefixes.1, omega arith, one_byte)

-- not the empty prefix, and not None
longest_is_not_empty : ¬ IsLongestOf AtMostA (codes "ab") (Some [])
unfolding chars
longest_is_not_empty h = let l = h.2 (codes "a") prefixes.1 (omega arith) in omega (arith, l)

longest_is_not_none : ¬ IsLongestOf AtMostA (codes "ab") None
unfolding chars
longest_is_not_none h = h [] prefixes.0 (omega arith)

-- if no word is in the set there is none, not even the empty one
longest_of_no_words : IsLongestOf (λ w. ⊥) (codes "ab") None
longest_of_no_words p b h = h

-- the empty prefix counts
longest_of_the_empty_word : IsLongestOf (λ w. w ≡ []) [] (Some [])
unfolding chars lib.Utf8.encode
longest_of_the_empty_word = (([], (refl, ([], (refl, refl)))), refl, λ q b h. omega (arith, empty q b.0 b.1.0))
  where
    empty : (q rest : List ℕ) → [] ≡ q ++ rest → length q ≡ 0
    empty [] rest e = refl
    empty (x ∷ q) rest e = absurd (cc)
