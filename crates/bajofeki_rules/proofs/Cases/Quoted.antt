-- Cases of specs/Quoted.antt.
use Rattle.std.proofs.Common.{◌≡◌, ◌≢◌, true, false, [], Some, None, codes, length, refl, ap, arith}
use Rattle.std.specs.Fmt.{digits}
use Rattle.std.specs.Str.{chars}
use Rattle.ucd_category.proofs.Computing.{ucd_category}
use Rattle.ucd_derived.proofs.Computing.{ucd_derived}
use Rattle.bajofeki_rules.specs.Quoted.{short_escape, is_unseen, told, quoted}

-- a quote and a line feed have a short escape, a letter and the character 1 don't
characters_with_a_short_escape : (short_escape 34 ≡ Some (codes "\\\"")) × (short_escape 10 ≡ Some (codes "\\n"))
characters_with_a_short_escape = (refl, refl)

characters_without_a_short_escape : (short_escape 97 ≡ None) × (short_escape 1 ≡ None)
characters_without_a_short_escape = (refl, refl)

-- a letter and `'` are written as they are
characters_that_stand_for_themselves : (told 97 ≡ codes "a") × (told 39 ≡ codes "'")
unfolding lib.Utf8.encode ucd_category ucd_derived
characters_that_stand_for_themselves = (refl, refl)

-- other characters that aren't seen by their number
unseen_characters_are_written_by_their_number : (told 1 ≡ codes "\\u{1}") × (told 127 ≡ codes "\\u{7f}") × (told 8232 ≡ codes "\\u{2028}")
unfolding digits
unseen_characters_are_written_by_their_number = (refl, refl, refl)

-- separators, a soft hyphen, marks of direction, joiners, variation selectors and tags
separators : (is_unseen 0x2028 ≡ true) × (is_unseen 0x2029 ≡ true)
separators = (refl, refl)

soft_hyphen : (is_unseen 0xAC ≡ false) × (is_unseen 0xAD ≡ true) × (is_unseen 0xAE ≡ false)
unfolding ucd_category ucd_derived
soft_hyphen = (refl, refl, refl)

marks_of_direction : (is_unseen 0x61B ≡ false) × (is_unseen 0x61C ≡ true) × (is_unseen 0x200E ≡ true) × (is_unseen 0x202E ≡ true) × (is_unseen 0x202F ≡ false) × (is_unseen 0x2066 ≡ true)
unfolding ucd_category ucd_derived
marks_of_direction = (refl, refl, refl, refl, refl, refl)

joiners : (is_unseen 0x200A ≡ false) × (is_unseen 0x200D ≡ true) × (is_unseen 0x2060 ≡ true) × (is_unseen 0xFEFF ≡ true)
unfolding ucd_category ucd_derived
joiners = (refl, refl, refl, refl)

variation_selectors : (is_unseen 0xFE00 ≡ true) × (is_unseen 0xFE0F ≡ true) × (is_unseen 0xFE10 ≡ false) × (is_unseen 0xE0100 ≡ true) × (is_unseen 0xE01EF ≡ true)
unfolding ucd_category ucd_derived
variation_selectors = (refl, refl, refl, refl, refl)

tags : (is_unseen 0xE0001 ≡ true) × (is_unseen 0xE0020 ≡ true) × (is_unseen 0xE007F ≡ true) × (is_unseen 0xE1000 ≡ true)
unfolding ucd_category ucd_derived
tags = (refl, refl, refl, refl)

-- a character that isn't assigned, beside one that is
unassigned : (is_unseen 0x377 ≡ false) × (is_unseen 0x378 ≡ true)
unfolding ucd_category ucd_derived
unassigned = (refl, refl)

-- slices in quotes
slices_in_quotes : (quoted (codes "a\n") ≡ codes "\"a\\n\"") × (quoted [] ≡ codes "\"\"") × (quoted (codes "\"") ≡ codes "\"\\\"\"")
unfolding chars lib.Utf8.encode ucd_category ucd_derived
slices_in_quotes = (refl, refl, refl)

-- not without the quotes, and a line feed isn't written as it is
slice_without_quotes : quoted (codes "a") ≢ codes "a"
unfolding chars lib.Utf8.encode ucd_category ucd_derived
slice_without_quotes e = let n : 3 ≡ 1 = ap length e in omega (arith, n)

line_feed_in_quotes : quoted (codes "\n") ≢ codes "\"\n\""
unfolding chars
line_feed_in_quotes e = let n : 4 ≡ 3 = ap length e in omega (arith, n)
