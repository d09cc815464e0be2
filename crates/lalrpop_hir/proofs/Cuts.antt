-- How a walk along a text divides it: what was read, and what is left.
use Rattle.std.proofs.Common.{◌≡◌, ℕ, ◌+◌, ◌<◌, ◌≤◌, ◌⊎◌, ⊎_elim, inl, inr, List, [], ◌∷◌, ◌++◌, length, take, drop, refl, sym, ap, subst, ◌∙◌, arith, append_assoc, length-append}
use Rattle.std.specs.Char.{encode_utf8}
use Rattle.std.specs.Str.{chars, IsUtf8, IsCharBoundary, encode_utf8_all}
use Rattle.std.proofs.lemmas.List.{append-nil, append_cancel_left, take_at, take-append-drop, take-append-le, nil_from_length}
use Rattle.std.proofs.lemmas.Str.{chars-nil, chars-append, chars_past_char, encode_same, encodes-chars, IsUtf8-drop, IsUtf8-take, IsUtf8-past_char, IsCharBoundary-at_seam, IsCharBoundary-from_take}
use Rattle.lalrpop_hir.specs.Prefix.{IsPrefix}

-- the first `at` bytes of the text were read, and whole characters are left
pub record IsCut (text : List ℕ) (at : ℕ) (rest : List ℕ) : Type 0 where
  pub split : text ≡ take at text ++ rest
  pub place : length (take at text) ≡ at
  pub seen_utf8 : IsUtf8 (take at text)
  pub rest_utf8 : IsUtf8 rest

pub cut_start : (text : List ℕ) → IsUtf8 text → IsCut text 0 text
cut_start text u = record { split = refl; place = refl; seen_utf8 = ([], (refl, refl)); rest_utf8 = u }

pub cut_within : (text rest : List ℕ) (at : ℕ) → IsCut text at rest → at + length rest ≡ length text
cut_within text rest at h = omega (arith, ap length h.split, length-append (take at text) rest, h.place)

front_after : (text rest rest2 : List ℕ) (at at2 c : ℕ) → IsCut text at rest → rest ≡ encode_utf8 c ++ rest2 → at2 ≡ at + length (encode_utf8 c)
    → take at2 text ≡ take at text ++ encode_utf8 c
front_after text rest rest2 at at2 c h e l =
    let seam : text ≡ (take at text ++ encode_utf8 c) ++ rest2 = rw append_assoc (h.split ∙ ap (λ ys. take at text ++ ys) e) in
    let size : length (take at text ++ encode_utf8 c) ≡ at2 = omega (arith, length-append (take at text) (encode_utf8 c), h.place, l) in
    ap (take at2) seam ∙ take_at (take at text ++ encode_utf8 c) rest2 at2 size

pub cut_more : (text rest rest2 : List ℕ) (at at2 c : ℕ) → IsUtf8 text → IsCut text at rest → rest ≡ encode_utf8 c ++ rest2 → at2 ≡ at + length (encode_utf8 c)
    → IsCut text at2 rest2
cut_more text rest rest2 at at2 c u h e l =
    let front : take at2 text ≡ take at text ++ encode_utf8 c = front_after text rest rest2 at at2 c h e l in
    let seam : text ≡ (take at text ++ encode_utf8 c) ++ rest2 = rw append_assoc (h.split ∙ ap (λ ys. take at text ++ ys) e) in
    let size : length (take at text ++ encode_utf8 c) ≡ at2 = omega (arith, length-append (take at text) (encode_utf8 c), h.place, l) in
    let later : IsUtf8 rest2 = IsUtf8-past_char rest rest2 c h.rest_utf8 e in
    record {
      split = seam ∙ ap (λ xs. xs ++ rest2) (sym front);
      place = ap length front ∙ size;
      seen_utf8 = IsUtf8-take text at2 u (subst (IsCharBoundary text) size (IsCharBoundary-at_seam text (take at text ++ encode_utf8 c) rest2 seam later));
      rest_utf8 = later;
    }

one_char : (rest rest2 : List ℕ) (c : ℕ) → IsUtf8 rest → rest ≡ encode_utf8 c ++ rest2 → IsUtf8 (encode_utf8 c)
one_char rest rest2 c u e =
    let later : IsUtf8 rest2 = IsUtf8-past_char rest rest2 c u e in
    subst IsUtf8 (ap (take (length (encode_utf8 c))) e ∙ take_at (encode_utf8 c) rest2 (length (encode_utf8 c)) refl)
    (IsUtf8-take rest (length (encode_utf8 c)) u (IsCharBoundary-at_seam rest (encode_utf8 c) rest2 e later))

pub word_after : (text rest rest2 : List ℕ) (at at2 c : ℕ) → IsCut text at rest → rest ≡ encode_utf8 c ++ rest2 → at2 ≡ at + length (encode_utf8 c)
    → chars (take at2 text) ≡ chars (take at text) ++ c ∷ []
word_after text rest rest2 at at2 c h e l =
    let one : IsUtf8 (encode_utf8 c) = one_char rest rest2 c h.rest_utf8 e in
    ap chars (front_after text rest rest2 at at2 c h e l) ∙ chars-append (take at text) (encode_utf8 c) h.seen_utf8
    ∙ ap (λ w. chars (take at text) ++ w) (chars_past_char (encode_utf8 c) [] c one (sym (append-nil (encode_utf8 c))) ∙ ap (λ w. c ∷ w) chars-nil)

-- one more character was read
pub count_more : (text rest rest2 : List ℕ) (at at2 c : ℕ) → IsCut text at rest → rest ≡ encode_utf8 c ++ rest2 → at2 ≡ at + length (encode_utf8 c)
    → length (chars (take at2 text)) ≡ length (chars (take at text)) + 1
count_more text rest rest2 at at2 c h e l = ap length (word_after text rest rest2 at at2 c h e l) ∙ length-append (chars (take at text)) (c ∷ [])

-- no more characters are read than the text has
pub count_within : (text rest : List ℕ) (at : ℕ) → IsCut text at rest → length (chars (take at text)) ≤ length (chars text)
count_within text rest at h =
    let whole : chars text ≡ chars (take at text) ++ chars rest = ap chars h.split ∙ chars-append (take at text) rest h.seen_utf8 in
    omega (arith, ap length whole, length-append (chars (take at text)) (chars rest))

-- a prefix at least as long as what was read extends it by whole characters
pub record GoesOn (text rest : List ℕ) (at : ℕ) (q : List ℕ) : Type 0 where
  pub more : List ℕ
  pub left : List ℕ
  pub is : q ≡ take at text ++ more
  pub utf8 : IsUtf8 more
  pub rest_is : rest ≡ more ++ left

pub goes_on : (text rest : List ℕ) (at : ℕ) (q : List ℕ) → IsCut text at rest → IsPrefix q text → at ≤ length q → GoesOn text rest at q
goes_on text rest at q h b l =
    let front : take at q ≡ take at text = sym (ap (take at) b.1.0 ∙ take-append-le at q b.0 l) in
    let is : q ≡ take at text ++ drop at q = sym (take-append-drop at q) ∙ ap (λ xs. xs ++ drop at q) front in
    let same : take at text ++ rest ≡ take at text ++ (drop at q ++ b.0) =
    sym h.split ∙ b.1.0 ∙ ap (λ xs. xs ++ b.0) is ∙ append_assoc (take at text) (drop at q) b.0 in
    record {
      more = drop at q;
      left = b.0;
      is = is;
      utf8 = IsUtf8-drop q at b.1.1 (IsCharBoundary-from_take q at b.1.1 l (subst IsUtf8 (sym front) h.seen_utf8));
      rest_is = append_cancel_left (take at text) rest (drop at q ++ b.0) same;
    }

first_char : (more left rest2 : List ℕ) (c : ℕ) (cs : List ℕ) → encode_utf8_all cs ≡ more → more ++ left ≡ encode_utf8 c ++ rest2
    → (more ≡ []) ⊎ ((ds : List ℕ) × (more ≡ encode_utf8 c ++ encode_utf8_all ds))
first_char more left rest2 c [] e same = inl (sym e)
first_char more left rest2 c (d ∷ ds) e same =
    let joined : encode_utf8 d ++ (encode_utf8_all ds ++ left) ≡ encode_utf8 c ++ rest2 =
    sym (append_assoc (encode_utf8 d) (encode_utf8_all ds) left) ∙ ap (λ xs. xs ++ left) e ∙ same in
    let first : d ≡ c = (encode_same d c (encode_utf8_all ds ++ left) rest2 joined).0 in
    inr (ds, sym e ∙ ap (λ x. encode_utf8 x ++ encode_utf8_all ds) first)

-- a prefix that is longer than what was read, and ends no later than the next character, ends with it
pub ends_there : (text rest rest2 q : List ℕ) (at at2 c : ℕ) → IsCut text at rest → rest ≡ encode_utf8 c ++ rest2 → at2 ≡ at + length (encode_utf8 c)
    → IsPrefix q text → at < length q → length q ≤ at2 → q ≡ take at2 text
ends_there text rest rest2 q at at2 c h e l b above below =
    let g = goes_on text rest at q h b (omega arith) in
    let size : length q ≡ at + length g.more = omega (arith, ap length g.is, length-append (take at text) g.more, h.place) in
    ⊎_elim (λ (none : g.more ≡ []). let zero : length g.more ≡ 0 = ap length none in absurd (omega arith))
    (λ (some : (ds : List ℕ) × (g.more ≡ encode_utf8 c ++ encode_utf8_all ds)).
    let long : length g.more ≡ length (encode_utf8 c) + length (encode_utf8_all some.0) = ap length some.1 ∙ length-append (encode_utf8 c) (encode_utf8_all some.0) in
    let nothing : length (encode_utf8_all some.0) ≡ 0 = omega arith in
    let one : g.more ≡ encode_utf8 c = some.1 ∙ ap (λ xs. encode_utf8 c ++ xs) (nil_from_length (encode_utf8_all some.0) nothing) ∙ append-nil (encode_utf8 c) in
    g.is ∙ ap (λ xs. take at text ++ xs) one ∙ sym (front_after text rest rest2 at at2 c h e l))
    (first_char g.more g.left rest2 c (chars g.more) (encodes-chars g.more g.utf8) (sym g.rest_is ∙ e))
