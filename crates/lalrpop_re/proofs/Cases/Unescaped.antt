-- Cases of specs/Unescaped.antt.
use Rattle.std.proofs.Common.{◌≡◌, ℕ, Bool, false, ap, List, [], ◌∷◌, Option, Some, None, codes, refl, sym, ◌∙◌, lit<}
use Rattle.lalrpop_re.specs.Text.{Text}
use Rattle.lalrpop_re.specs.Escape.{Escaped, character, set, sign, hex_value, at_once, digits_alone, digits_braced, escape_of}
use Rattle.lalrpop_re.specs.Unescaped.{Unescapes, at_end, itself, by_escape}
use Rattle.lalrpop_re.specs.Internal.Reading as reading
use Rattle.unicode.specs.Perl.{is_digit_char}
use Rattle.lalrpop_re.specs.CharacterSet.{Set}
use Rattle.lalrpop_re.proofs.Steps.{some_is}
use Rattle.lalrpop_re.proofs.UnescapedLaws.{says_nothing, says_first}

-- the empty text says itself, and no other
empty_text : Unescapes [] [] × ((cs : List ℕ) → Unescapes [] cs → cs ≡ [])
empty_text = (at_end, says_nothing)

-- `a\n` says an `a` and a line feed
line_feed : Unescapes (codes "a\\n") (97 ∷ 10 ∷ [])
unfolding sign
line_feed = itself refl (by_escape (escape_of at_once) at_end)

-- `\\n` says a backslash and an `n`
backslash : Unescapes (codes "\\\\n") (92 ∷ 110 ∷ [])
unfolding sign
backslash = by_escape (escape_of at_once) (itself refl at_end)

-- `\x41.` and `\u{41}.` say `A.`
codes_of_a_letter : Unescapes (codes "\\x41.") (codes "A.") × Unescapes (codes "\\u{41}.") (codes "A.")
unfolding sign hex_value
codes_of_a_letter = (
  by_escape (escape_of (digits_alone 52 (49 ∷ []) refl (record { digits_only = refl; value = refl; scalar = refl }))) (itself refl at_end),
  by_escape (escape_of (digits_braced (codes "41") (lit< tt) (record { digits_only = refl; value = refl; scalar = refl }))) (itself refl at_end),
)

not_nothing : (x : Escaped × Text) → Some x ≡ None → ⊥
not_nothing x e = absurd (cc)

not_character : (p : Set) (negated : Bool) (t : Text) (c : ℕ) (r : Text) → ◌≡◌ {A = Option (Escaped × Text)} (Some (set p negated, t)) (Some (character c, r)) → ⊥
not_character p negated t c r e = let k : set p negated ≡ character c = ap (λ (x : Escaped × Text). x.0) (some_is _ _ e) in absurd (cc)

-- a backslash alone says nothing
backslash_alone : (cs : List ℕ) → ¬ Unescapes (codes "\\") cs
unfolding reading.primary reading.escape
backslash_alone cs h =
    let s = says_first 92 [] cs h in
    let none : reading.primary (codes "\\") ≡ None = refl in
    not_nothing (character s.first, s.rest) (sym s.read ∙ none)

-- and so does the escape of a set
set_of_digits : (cs : List ℕ) → ¬ Unescapes (codes "\\d") cs
unfolding reading.primary reading.escape reading.signed sign
set_of_digits cs h =
    let s = says_first 92 (codes "d") cs h in
    let read : reading.primary (codes "\\d") ≡ Some (set is_digit_char false, []) = refl in
    not_character is_digit_char false [] s.first s.rest (sym read ∙ s.read)
