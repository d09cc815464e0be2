-- Cases of specs/Begun.antt. "ä" is C3 A4, "€" is E2 82 AC; FF is in no character (Unicode, tables 3-6 and 3-7).
use Rattle.std.proofs.Common.{◌≡◌, ℕ, true, false, true≢false, inl, inr, [], ◌∷◌, length, take, codes, refl, ap, subst, sym, ◌∙◌, arith, IsUtf8}
use Rattle.std.specs.Str.{chars, is_utf8}
use Rattle.std.specs.Str.Lossy.{utf8_error_len}
use Rattle.std.proofs.lemmas.Str.{IsUtf8-from_is_utf8, is_utf8-from_IsUtf8}
use lib.Utf8.{encode}
use Rattle.bajofeki.specs.Begun.{NoCharacter, IsBegun, IsBad}
use Rattle.bajofeki.proofs.BegunLaws.{nothing_begun, none_comes, begun_not_bad}

pub letter : IsUtf8 (codes "a")
unfolding is_utf8 chars encode
letter = IsUtf8-from_is_utf8 (codes "a") refl

pub umlaut : IsUtf8 (0xC3 ∷ 0xA4 ∷ [])
unfolding is_utf8 chars encode
umlaut = IsUtf8-from_is_utf8 (0xC3 ∷ 0xA4 ∷ []) refl

-- ---- no character at the front

-- one byte, which is none
not_one : (x : ℕ) → is_utf8 (x ∷ []) ≡ false → NoCharacter (x ∷ [])
not_one x fails n some within u =
    let one : n ≡ 1 = omega arith in
    true≢false (sym (is_utf8-from_IsUtf8 (x ∷ []) (subst (λ m. IsUtf8 (take m (x ∷ []))) one u)) ∙ fails)

no_character_at_a_first_byte : NoCharacter (0xC3 ∷ [])
unfolding is_utf8 chars
no_character_at_a_first_byte = not_one 0xC3 refl

a_character_at_a_letter : ¬ NoCharacter (codes "ab")
a_character_at_a_letter none = none 1 (omega arith) (omega arith) letter

-- ---- a character has begun

pub a_first_byte_begins : IsBegun (0xC3 ∷ [])
unfolding is_utf8 chars
a_first_byte_begins = (not_one 0xC3 refl, (0xA4 ∷ [], umlaut))

nothing_begins : IsBegun []
nothing_begins = nothing_begun

-- a letter is whole, and FF begins none
a_letter_is_whole : ¬ IsBegun (codes "a")
a_letter_is_whole begun = begun.0 1 (omega arith) (omega arith) letter

-- ---- bytes that are bad

pub of_no_character : IsBad (0xFF ∷ [])
unfolding is_utf8 chars utf8_error_len
of_no_character = ((λ e. cc), none_comes (0xFF ∷ []) (not_one 0xFF refl) (λ e. cc))

not_both : ¬ IsBegun (0xFF ∷ [])
not_both begun = begun_not_bad (0xFF ∷ []) begun of_no_character

a_first_byte_is_good : ¬ IsBad (0xC3 ∷ [])
a_first_byte_is_good bad = begun_not_bad (0xC3 ∷ []) a_first_byte_begins bad

nothing_is_good : ¬ IsBad []
nothing_is_good bad = bad.0 refl
