-- How a walk along bytes divides them: whole characters that were read, and what is left, which needn't be UTF-8.
use Rattle.std.proofs.Common.{◌≡◌, ℕ, ◌+◌, ◌<◌, ◌≤◌, ◌⊎◌, ⊎_elim, inl, inr, List, [], ◌∷◌, ◌++◌, length, take, drop, refl, sym, ap, subst, ◌∙◌, arith, append_assoc, length-append}
use Rattle.std.specs.Char.{encode_utf8, IsScalar}
use Rattle.std.specs.Str.{chars, IsUtf8, encode_utf8_all}
use Rattle.std.proofs.lemmas.Bool.{and_parts, cases_lt}
use Rattle.std.proofs.lemmas.List.{append-nil, append_cancel_left, take_at, take-append-drop, take-append-le, nil_from_length, length-take-le, drop-drop}
use Rattle.std.proofs.lemmas.Str.{chars-nil, chars-append, chars_past_char, encode_same, IsUtf8-append, IsUtf8-encode, IsUtf8-drop, IsCharBoundary-from_take}
use Rattle.lalrpop_hir.specs.Prefix.{IsPrefix}
use Rattle.lalrpop_emit.specs.Internal.Characters.{IsCharacterAt}

-- the first `at` bytes are whole characters
pub record IsRead (text : List ℕ) (at : ℕ) : Type 0 where
  pub within : at ≤ length text
  pub utf8 : IsUtf8 (take at text)

pub read_start : (text : List ℕ) → IsRead text 0
read_start text = record { within = omega arith; utf8 = ([], (refl, refl)) }

-- ---- one more character

module _ (text : List ℕ) (at at2 c : ℕ) (r : IsRead text at) (h : IsCharacterAt text at c) (l : at2 ≡ at + length (encode_utf8 c)) where
  seam : text ≡ (take at text ++ encode_utf8 c) ++ h.rest
  seam = rw append_assoc (sym (take-append-drop at text) ∙ ap (λ ys. take at text ++ ys) h.split)

  size : length (take at text ++ encode_utf8 c) ≡ at2
  size = omega (arith, length-append (take at text) (encode_utf8 c), length-take-le at text r.within, l)

  front_after : take at2 text ≡ take at text ++ encode_utf8 c
  front_after = ap (take at2) seam ∙ take_at (take at text ++ encode_utf8 c) h.rest at2 size

  pub read_more : IsRead text at2
  read_more = record {
    within = omega (arith, ap length seam, length-append (take at text ++ encode_utf8 c) h.rest, size);
    utf8 = subst IsUtf8 (sym front_after) (IsUtf8-append (take at text) (encode_utf8 c) r.utf8 (IsUtf8-encode c h.scalar));
  }

  pub word_after : chars (take at2 text) ≡ chars (take at text) ++ c ∷ []
  word_after =
      ap chars front_after ∙ chars-append (take at text) (encode_utf8 c) r.utf8
      ∙ ap (λ w. chars (take at text) ++ w) (chars_past_char (encode_utf8 c) [] c (IsUtf8-encode c h.scalar) (sym (append-nil (encode_utf8 c))) ∙ ap (λ w. c ∷ w) chars-nil)

-- ---- prefixes that are longer than what was read

-- a prefix at least as long as what was read extends it by whole characters
pub record GoesOn (text : List ℕ) (at : ℕ) (q : List ℕ) : Type 0 where
  pub more : List ℕ
  pub left : List ℕ
  pub is : q ≡ take at text ++ more
  pub utf8 : IsUtf8 more
  pub rest_is : drop at text ≡ more ++ left

pub goes_on : (text : List ℕ) (at : ℕ) (q : List ℕ) → IsRead text at → IsPrefix q text → at ≤ length q → GoesOn text at q
goes_on text at q r b l =
    let front : take at q ≡ take at text = sym (ap (take at) b.1.0 ∙ take-append-le at q b.0 l) in
    let is : q ≡ take at text ++ drop at q = sym (take-append-drop at q) ∙ ap (λ xs. xs ++ drop at q) front in
    let same : take at text ++ drop at text ≡ take at text ++ (drop at q ++ b.0) =
    take-append-drop at text ∙ b.1.0 ∙ ap (λ xs. xs ++ b.0) is ∙ append_assoc (take at text) (drop at q) b.0 in
    record {
      more = drop at q;
      left = b.0;
      is = is;
      utf8 = IsUtf8-drop q at b.1.1 (IsCharBoundary-from_take q at b.1.1 l (subst IsUtf8 (sym front) r.utf8));
      rest_is = append_cancel_left (take at text) (drop at text) (drop at q ++ b.0) same;
    }

-- the first of these characters
more_begins : (more : List ℕ) → IsUtf8 more
    → (more ≡ []) ⊎ ((d : ℕ) × (ds : List ℕ) × (IsScalar d × (more ≡ encode_utf8 d ++ encode_utf8_all ds)))
more_begins more ([], u) = inl (sym u.1)
more_begins more (d ∷ ds, u) = inr (d, ds, ((and_parts _ _ u.0).0, sym u.1))

longer_more : (text : List ℕ) (at : ℕ) (q : List ℕ) → IsRead text at → (g : GoesOn text at q) → length q ≡ at + length g.more
longer_more text at q r g = omega (arith, ap length g.is, length-append (take at text) g.more, length-take-le at text r.within)

-- a prefix that is longer than what was read, and ends no later than the next character, ends with it
pub ends_there : (text : List ℕ) (at at2 c : ℕ) (q : List ℕ) → IsRead text at → IsCharacterAt text at c → at2 ≡ at + length (encode_utf8 c) → IsPrefix q text
    → at < length q → length q ≤ at2 → q ≡ take at2 text
ends_there text at at2 c q r h l b above below =
    let g = goes_on text at q r b (omega arith) in
    let size : length q ≡ at + length g.more = longer_more text at q r g in
    elim (more_begins g.more g.utf8) [
      | inl none ↦ let zero : length g.more ≡ 0 = ap length none in absurd (omega arith)
      | inr some ↦
          let e : encode_utf8 some.0 ++ (encode_utf8_all some.1 ++ g.left) ≡ encode_utf8 c ++ h.rest =
          sym (append_assoc (encode_utf8 some.0) (encode_utf8_all some.1) g.left) ∙ ap (λ xs. xs ++ g.left) (sym some.2.1) ∙ sym g.rest_is ∙ h.split in
          let first : some.0 ≡ c = (encode_same some.0 c (encode_utf8_all some.1 ++ g.left) h.rest e).0 in
          let is : g.more ≡ encode_utf8 c ++ encode_utf8_all some.1 = some.2.1 ∙ ap (λ x. encode_utf8 x ++ encode_utf8_all some.1) first in
          let long : length g.more ≡ length (encode_utf8 c) + length (encode_utf8_all some.1) = ap length is ∙ length-append (encode_utf8 c) (encode_utf8_all some.1) in
          let nothing : length (encode_utf8_all some.1) ≡ 0 = omega arith in
          let one : g.more ≡ encode_utf8 c =
          is ∙ ap (λ xs. encode_utf8 c ++ xs) (nil_from_length (encode_utf8_all some.1) nothing) ∙ append-nil (encode_utf8 c) in
          g.is ∙ ap (λ xs. take at text ++ xs) one ∙ sym (front_after text at at2 c r h l)
    ]

-- where no character is next, no prefix is longer than what was read
pub no_longer : (text : List ℕ) (at : ℕ) (q : List ℕ) → IsRead text at → ((c : ℕ) → ¬ IsCharacterAt text at c) → IsPrefix q text → length q ≤ at
no_longer text at q r none b =
    ⊎_elim (λ (above : at < length q).
    let g = goes_on text at q r b (omega arith) in
    let size : length q ≡ at + length g.more = longer_more text at q r g in
    elim (more_begins g.more g.utf8) [
      | inl nothing ↦ let zero : length g.more ≡ 0 = ap length nothing in absurd (omega arith)
      | inr some ↦ absurd (none some.0 (record {
        scalar = some.2.0;
        rest = encode_utf8_all some.1 ++ g.left;
        split = g.rest_is ∙ ap (λ xs. xs ++ g.left) some.2.1 ∙ append_assoc (encode_utf8 some.0) (encode_utf8_all some.1) g.left;
      }))
    ])
    (λ (below : length q ≤ at). below)
    (cases_lt at (length q))

-- ---- places of a text and of its rest

pub character_of_rest : (text : List ℕ) (start at n c : ℕ) → at ≡ start + n → IsCharacterAt text at c → IsCharacterAt (drop start text) n c
character_of_rest text start at n c e h = record {
  scalar = h.scalar;
  rest = h.rest;
  split = drop-drop n start text ∙ ap (λ (k : ℕ). drop k text) (sym e) ∙ h.split;
}

pub no_character_of_rest : (text : List ℕ) (start at n : ℕ) → at ≡ start + n → ((c : ℕ) → ¬ IsCharacterAt text at c) → (c : ℕ) → ¬ IsCharacterAt (drop start text) n c
no_character_of_rest text start at n e none c h = none c (record {
  scalar = h.scalar;
  rest = h.rest;
  split = ap (λ (k : ℕ). drop k text) e ∙ sym (drop-drop n start text) ∙ h.split;
})
