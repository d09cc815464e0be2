-- Cases of specs/Escape.antt.
use Rattle.std.proofs.Common.{◌≡◌, ℕ, [], ◌∷◌, true, false, Some, None, codes, refl, sym, subst, ◌∙◌, lit<, arith}
use Rattle.lalrpop_hir.specs.declared.look.Look.TheVariants.{WordStartUnicode, WordUnicode}
use Rattle.lalrpop_re.specs.Text.{Text}
use Rattle.lalrpop_re.specs.CharacterSet.{Set, is_scalar}
use Rattle.lalrpop_re.specs.NamedSet.{named}
use Rattle.unicode.specs.Loose.{normalize}
use Rattle.lalrpop_re.specs.Escape.{Escaped, character, assertion, this, code, unknown, is_mark, sign, begins_edge, is_set_name_char, hex_value, IsHex, IsSetName, at_once, digits_alone, digits_braced, edge_alone, edge_start, Escape, escape_of}
use Rattle.lalrpop_re.specs.Internal.Reading as reading
use Rattle.lalrpop_re.proofs.Escapes.{Escape-complete}

-- marks stand for themselves; letters, digits, `<` and `>` aren't marks
marks : (is_mark 46 ≡ true) × (is_mark 45 ≡ true) × (is_mark 97 ≡ false) × (is_mark 49 ≡ false) × (is_mark 60 ≡ false) × (is_mark 0xE9 ≡ false)
marks = (refl, refl, refl, refl, refl, refl)

-- what the character after the backslash says
signs : (sign 46 ≡ this (character 46)) × (sign 110 ≡ this (character 10)) × (sign 120 ≡ code 2) × (sign 113 ≡ unknown) × (sign 0xE9 ≡ unknown)
unfolding sign
signs = (refl, refl, refl, refl, refl)

-- `\n` is a line feed, and what follows is left
escaped_line_feed : Escape (codes "nx") (codes "x") (character 10)
unfolding sign
escaped_line_feed = escape_of at_once

-- `\x41` takes two digits
escape_by_two_digits : Escape (codes "x412") (codes "2") (character 0x41)
unfolding sign hex_value
escape_by_two_digits = escape_of (digits_alone 52 (49 ∷ []) refl (record { digits_only = refl; value = refl; scalar = refl }))

-- `\x{1F600}` takes all digits in the braces
escape_by_digits_in_braces : Escape (codes "x{1F600}") [] (character 0x1F600)
unfolding sign hex_value
escape_by_digits_in_braces = escape_of (digits_braced (codes "1F600") (lit< tt) (record { digits_only = refl; value = refl; scalar = refl }))

-- a surrogate is not a character
digits_of_a_surrogate : (c : ℕ) → ¬ IsHex (codes "D800") c
unfolding hex_value
digits_of_a_surrogate c h =
    let v : c ≡ 0xD800 = h.value in
    let s : is_scalar 0xD800 ≡ true = subst (λ n. is_scalar n ≡ true) v h.scalar in
    let k : false ≡ true = s in
    absurd (cc)

-- and `g` is not a digit
letter_is_no_digit : (c : ℕ) → ¬ IsHex (codes "4g") c
letter_is_no_digit c h = let k : false ≡ true = h.digits_only in absurd (cc)

-- `\b` alone is the edge of a word, `\b{start}` the start of one
edges_of_words : Escape (codes "b") [] (assertion WordUnicode) × Escape (codes "b{start}") [] (assertion WordStartUnicode)
unfolding sign
edges_of_words = (escape_of (edge_alone refl), escape_of edge_start)

-- which forms `\b` has
forms_of_an_edge : (begins_edge (codes "{end-half}") ≡ true) × (begins_edge (codes "{2}") ≡ false)
forms_of_an_edge = (refl, refl)

-- names of sets may have spaces and hyphens, and no `=`
characters_of_set_names : (is_set_name_char 32 ≡ true) × (is_set_name_char 45 ≡ true) × (is_set_name_char 61 ≡ false)
characters_of_set_names = (refl, refl, refl)

not_nothing : (x : Escaped × Text) → Some x ≡ None → ⊥
not_nothing x e = absurd (cc)

-- `\q` is not an escape
unknown_escape : (r : Text) (e : Escaped) → ¬ Escape (codes "q") r e
unfolding reading.escape reading.signed sign
unknown_escape r e h = let none : reading.escape (codes "q") ≡ None = refl in not_nothing (e, r) (sym (Escape-complete h) ∙ none)

-- and `\x4` is not one either
escape_with_a_digit_too_few : (r : Text) (e : Escaped) → ¬ Escape (codes "x4") r e
unfolding reading.escape reading.signed sign reading.digits_of
escape_with_a_digit_too_few r e h = let none : reading.escape (codes "x4") ≡ None = refl in not_nothing (e, r) (sym (Escape-complete h) ∙ none)

-- `any` is the name of a set; the empty name is not
name_of_all_characters : IsSetName (codes "any") is_scalar
unfolding named normalize
name_of_all_characters = record { not_empty = omega arith; spelled = refl; found = refl }

empty_name_of_a_set : (s : Set) → ¬ IsSetName [] s
empty_name_of_a_set s h = absurd (omega (arith, h.not_empty))
