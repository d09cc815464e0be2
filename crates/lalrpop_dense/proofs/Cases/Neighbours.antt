-- Cases of specs/Neighbours.antt.
use Rattle.std.proofs.Common.{◌≡◌, ◌≢◌, ℕ, zero, suc, ◌≤◌, inl, inr, List, [], ◌∷◌, ◌++◌, length, length-append, codes, refl, sym, ap, subst, ◌∙◌, arith}
use Rattle.std.specs.Prelude.{Some, None, Ok, slice_index}
use Rattle.std.specs.Str.{chars}
use Rattle.lalrpop_hir.specs.Tree.{Tree, literal}
use Rattle.lalrpop_hir.specs.Language.{Matches}
use Rattle.lalrpop_hir.specs.Longest.{IsMatch}
use Rattle.lalrpop_hir.specs.Winners.{TreeMatches, IsOnlyStrongest}
use Rattle.lalrpop_hir.specs.declared.token.Token.{Token}
use Rattle.lalrpop_dense.specs.Neighbours.{WordsOf, CanFollow, AllFollow, IsParted, text_of, IsWhole, CanPart, CanPartAll, placed}

-- ---- the literals `a` and `aa`, which share no word, and a space

abbrev a : List ℕ
a = codes "a"

abbrev aa : List ℕ
aa = codes "aa"

abbrev space : List ℕ
space = codes " "

abbrev ts : List Tree
ts = literal a ∷ literal aa ∷ literal space ∷ []

abbrev ps : List ℕ
ps = 0 ∷ 0 ∷ 0 ∷ []

-- the one word of each tree
abbrev word_at : ℕ → List ℕ
word_at zero = a
word_at (suc zero) = aa
word_at (suc (suc i)) = space

is_the_word : (cs w : List ℕ) (t : Tree) → Some (literal cs) ≡ Some t → Matches t w → w ≡ cs
is_the_word cs w t e m = let f : t ≡ literal cs = cc in subst (λ (x : Tree). Matches x w) f m

matched_by : (w : List ℕ) (i : ℕ) → TreeMatches ts w i → (w ≡ word_at i) × (i ≤ 2)
matched_by w zero m = (is_the_word a w m.0 m.1.0 m.1.1, omega arith)
matched_by w (suc zero) m = (is_the_word aa w m.0 m.1.0 m.1.1, omega arith)
matched_by w (suc (suc zero)) m = (is_the_word space w m.0 m.1.0 m.1.1, omega arith)
matched_by w (suc (suc (suc i))) m = let e : None ≡ Some m.0 = m.1.0 in absurd (cc)

no_precedence : (j : ℕ) → slice_index ps j ≡ 0
no_precedence zero = refl
no_precedence (suc zero) = refl
no_precedence (suc (suc zero)) = refl
no_precedence (suc (suc (suc j))) = refl

-- the trees have different words, so the one that matches is the only one
same_tree : (i j : ℕ) → i ≤ 2 → j ≤ 2 → word_at i ≡ word_at j → j ≡ i
same_tree zero zero l m e = refl
same_tree zero (suc zero) l m e = absurd (cc)
same_tree zero (suc (suc j)) l m e = let n : 97 ≡ 32 = ap (λ (v : List ℕ). slice_index v 0) e in omega (arith, n)
same_tree (suc zero) zero l m e = absurd (cc)
same_tree (suc zero) (suc zero) l m e = refl
same_tree (suc zero) (suc (suc j)) l m e = absurd (cc)
same_tree (suc (suc i)) zero l m e = let n : 32 ≡ 97 = ap (λ (v : List ℕ). slice_index v 0) e in omega (arith, n)
same_tree (suc (suc i)) (suc zero) l m e = absurd (cc)
same_tree (suc (suc i)) (suc (suc j)) l m e = omega arith

only_strongest : (w : List ℕ) (i : ℕ) → TreeMatches ts w i → IsOnlyStrongest ts ps w i
only_strongest w i m = (
  (m, λ j n. omega (arith, no_precedence i, no_precedence j)),
  λ j top. (let one = matched_by w i m in let other = matched_by w j top.0 in same_tree i j one.1 other.1 (sym one.0 ∙ other.0)),
)

a_matches : TreeMatches ts a 0
a_matches = (literal a, (refl, refl))

aa_matches : TreeMatches ts aa 1
aa_matches = (literal aa, (refl, refl))

space_matches : TreeMatches ts space 2
space_matches = (literal space, (refl, refl))

-- ---- the words of one tree

word_of_the_second : WordsOf ts ps 1 aa
word_of_the_second = only_strongest aa 1 aa_matches

word_of_another : ¬ WordsOf ts ps 1 a
word_of_another only = let e : a ≡ aa = (matched_by a 1 only.0.0).0 in absurd (cc)

-- ---- which tokens may follow

-- `a` and then `a` could be the token `aa`
same_short_token : ¬ CanFollow ts ps 0 0
same_short_token apart = apart (record {
  first = a;
  value = 97;
  rest = [];
  later = [];
  some = λ e. cc;
  is_first = only_strongest a 0 a_matches;
  begins_second = only_strongest a 0 a_matches;
  goes_on = (1, aa_matches);
})

-- no match begins with `aa` and goes on
behind_the_long_token : (j : ℕ) → CanFollow ts ps 1 j
behind_the_long_token j h = longer h.value h.later h.goes_on.0 (matched_by (h.first ++ (h.value ∷ h.later)) h.goes_on.0 h.goes_on.1).0
  where
    long : h.first ≡ aa
    long = (matched_by h.first 1 h.is_first.0.0).0

    no_match : (c : ℕ) (z : List ℕ) (i : ℕ) → aa ++ (c ∷ z) ≡ word_at i → ⊥
    no_match c z zero e = absurd (cc)
    no_match c z (suc zero) e = absurd (cc)
    no_match c z (suc (suc i)) e = absurd (cc)

    longer : (c : ℕ) (z : List ℕ) (i : ℕ) → h.first ++ (c ∷ z) ≡ word_at i → ⊥
    longer c z i e = no_match c z i (ap (λ (v : List ℕ). v ++ (c ∷ z)) (sym long) ∙ e)

-- of two tokens the order counts
in_this_order_alone : CanFollow ts ps 1 0 × (¬ CanFollow ts ps 0 1)
in_this_order_alone = (
  behind_the_long_token 0,
  λ apart. apart (record {
    first = a;
    value = 97;
    rest = a;
    later = [];
    some = λ e. cc;
    is_first = only_strongest a 0 a_matches;
    begins_second = only_strongest aa 1 aa_matches;
    goes_on = (1, aa_matches);
  }),
)

-- a space behind `a` is no part of a match, and nothing goes on behind a space
space_between : CanFollow ts ps 0 2 × CanFollow ts ps 2 0
space_between = (
  (λ h. before h.first h.value h.rest h.later h.goes_on.0 (matched_by h.first 0 h.is_first.0.0).0
      (matched_by (h.value ∷ h.rest) 2 h.begins_second.0.0).0 (matched_by (h.first ++ (h.value ∷ h.later)) h.goes_on.0 h.goes_on.1).0),
  (λ h. behind h.first h.value h.later h.goes_on.0 (matched_by h.first 2 h.is_first.0.0).0
      (matched_by (h.first ++ (h.value ∷ h.later)) h.goes_on.0 h.goes_on.1).0),
)
  where
    no_match : (z : List ℕ) (i : ℕ) → a ++ (32 ∷ z) ≡ word_at i → ⊥
    no_match z zero e = absurd (cc)
    no_match z (suc zero) e = let n : 32 ≡ 97 = ap (λ (v : List ℕ). slice_index v 1) e in omega (arith, n)
    no_match z (suc (suc i)) e = absurd (cc)

    before : (v : List ℕ) (c : ℕ) (y z : List ℕ) (i : ℕ) → v ≡ a → c ∷ y ≡ space → v ++ (c ∷ z) ≡ word_at i → ⊥
    before v c y z i e f g =
        let same : c ≡ 32 = ap (λ (v : List ℕ). slice_index v 0) f in
        no_match z i (ap (λ (n : ℕ). a ++ (n ∷ z)) (sym same) ∙ ap (λ (v : List ℕ). v ++ (c ∷ z)) (sym e) ∙ g)

    nothing_longer : (c : ℕ) (z : List ℕ) (i : ℕ) → space ++ (c ∷ z) ≡ word_at i → ⊥
    nothing_longer c z zero e = absurd (cc)
    nothing_longer c z (suc zero) e = let n : 32 ≡ 97 = ap (λ (v : List ℕ). slice_index v 0) e in omega (arith, n)
    nothing_longer c z (suc (suc i)) e = absurd (cc)

    behind : (v : List ℕ) (c : ℕ) (z : List ℕ) (i : ℕ) → v ≡ space → v ++ (c ∷ z) ≡ word_at i → ⊥
    behind v c z i e g = nothing_longer c z i (ap (λ (v : List ℕ). v ++ (c ∷ z)) (sym e) ∙ g)

-- what is no tree has no tokens
behind_no_tree : (j : ℕ) → CanFollow ts ps 3 j
behind_no_tree j h = let l : 3 ≤ 2 = (matched_by h.first 3 h.is_first.0.0).1 in omega (arith, l)

-- ---- all tokens

abbrev short : ℕ × List ℕ
short = (0, a)

abbrev long : ℕ × List ℕ
long = (1, aa)

abbrev blank : ℕ × List ℕ
blank = (2, space)

no_neighbours : AllFollow ts ps []
no_neighbours = tt

one_token : AllFollow ts ps (short ∷ [])
one_token = tt

each_follows : AllFollow ts ps (long ∷ short ∷ blank ∷ [])
each_follows = (behind_the_long_token 0, (space_between.0, tt))

later_neighbours : ¬ AllFollow ts ps (long ∷ short ∷ short ∷ [])
later_neighbours follow = same_short_token follow.1.0

-- ---- the separator

no_tokens_parted : IsParted ts ps blank [] []
no_tokens_parted = refl

separator_before_a_token : ¬ IsParted ts ps blank (short ∷ []) (blank ∷ short ∷ [])
separator_before_a_token parted = let n : 2 ≡ 1 = ap length parted in omega (arith, n)

parted_where_needed : IsParted ts ps blank (short ∷ short ∷ []) (short ∷ blank ∷ short ∷ [])
parted_where_needed = (short ∷ [], (refl, inr (same_short_token, refl)))

together_where_possible : IsParted ts ps blank (long ∷ short ∷ []) (long ∷ short ∷ [])
together_where_possible = (short ∷ [], (refl, inl (behind_the_long_token 0, refl)))

needless_separator : ¬ IsParted ts ps blank (long ∷ short ∷ []) (long ∷ blank ∷ short ∷ [])
needless_separator (zs, (parted, inl near)) =
    let n : 3 ≡ 2 = ap length near.1 ∙ ap (λ (l : List (ℕ × List ℕ)). length (long ∷ l)) parted in
    omega (arith, n)
needless_separator (zs, (parted, inr apart)) = apart.0 (behind_the_long_token 0)

separator_left_out : ¬ IsParted ts ps blank (short ∷ short ∷ []) (short ∷ short ∷ [])
separator_left_out (zs, (parted, inl near)) = same_short_token near.0
separator_left_out (zs, (parted, inr apart)) =
    let n : 2 ≡ 3 = ap length apart.1 ∙ ap (λ (l : List (ℕ × List ℕ)). length (short ∷ blank ∷ l)) parted in
    omega (arith, n)

can_part : CanPart ts ps blank short short
can_part = space_between

-- a separator that runs on into the second token
cannot_part : ¬ CanPart ts ps long short short
cannot_part parts = in_this_order_alone.1 parts.0

all_can_be_parted : CanPartAll ts ps blank (long ∷ short ∷ short ∷ [])
all_can_be_parted = ((λ apart. absurd (apart (behind_the_long_token 0))), ((λ apart. space_between), tt))

some_cannot_be_parted : ¬ CanPartAll ts ps long (long ∷ short ∷ short ∷ [])
some_cannot_be_parted can = cannot_part (can.1.0 same_short_token)

-- ---- their text

text_of_none : text_of [] ≡ []
text_of_none = refl

text_of_three : text_of (short ∷ blank ∷ long ∷ []) ≡ codes "a aa"
text_of_three = refl

text_turned_round : text_of (short ∷ blank ∷ []) ≢ codes " a"
text_turned_round e = let n : 97 ≡ 32 = ap (λ (v : List ℕ). slice_index v 0) e in omega (arith, n)

places_of_three : (token : Token) → Ok token ∷ [] ≡ placed 3 (long ∷ []) → (token.start ≡ 3) × (token.index ≡ 1) × (token.slice.now ≡ aa)
places_of_three token e = let same : token ≡ record { index = 1; slice = record { ref_ptr = (0, 0); now = aa }; start = 3 } = cc in
    (ap (λ (t : Token). t.start) same, ap (λ (t : Token). t.index) same, ap (λ (t : Token). t.slice.now) same)

-- the second begins where the first ends
second_place : placed 0 (long ∷ short ∷ []) ≡ placed 0 (long ∷ []) ++ placed 2 (short ∷ [])
second_place = refl

-- ---- tokens that are cut alone

chars_aa : chars aa ≡ aa
unfolding chars
chars_aa = refl

its_text_is_cut_whole : IsWhole ts ps long
unfolding lib.Utf8.encode
its_text_is_cut_whole = (
  (
    (([], (refl, (aa, (refl, refl)))), (λ e. cc), (1, (literal aa, (refl, chars_aa)))),
    (λ p m. at_most_two p m),
    (only.0, λ j top. omega (arith, only.1 j top)),
  ),
  only,
)
  where
    only : IsOnlyStrongest ts ps (chars aa) 1
    only = only_strongest (chars aa) 1 (literal aa, (refl, chars_aa))

    at_most_two : (p : List ℕ) → IsMatch ts aa p → length p ≤ 2
    at_most_two p m = let whole : 2 ≡ length (p ++ m.0.0) = ap length m.0.1.0 in omega (arith, whole, length-append p m.0.0)

text_of_another_tree : ¬ IsWhole ts ps (0, aa)
text_of_another_tree whole = let e : chars aa ≡ a = (matched_by (chars aa) 0 whole.1.0.0).0 in
    let n : 2 ≡ 1 = ap length (sym chars_aa ∙ e) in omega (arith, n)

another_tree_is_not_whole : (text : List ℕ) → ¬ IsWhole ts ps (3, text)
another_tree_is_not_whole text whole = let l : 3 ≤ 2 = (matched_by _ 3 whole.1.0.0).1 in omega (arith, l)

no_byte_is_not_whole : (i : ℕ) → ¬ IsWhole ts ps (i, [])
no_byte_is_not_whole i whole = whole.0.0.1 refl
