-- Cases of specs/Position.antt.
use Rattle.std.proofs.Common.{◌≡◌, ◌≢◌, ℕ, [], ◌∷◌, inl, inr, codes, refl, ap, arith}
use Rattle.std.specs.Str.{chars}
use Rattle.bajofeki_rules.specs.Position.{byte_place, byte_place_of, Fits, IsBefore, moved, place_after, position_of}
use Rattle.bajofeki_rules.specs.declared.position.Position.{Position}

abbrev place : ℕ → ℕ → Position
place line column = record { line = line; column = column }

the_beginning : position_of (codes "ab") 0 ≡ place 1 1
unfolding chars
the_beginning = refl

behind_one_character : position_of (codes "ab") 1 ≡ place 1 2
unfolding chars
behind_one_character = refl

-- é has two bytes and is one character
columns_count_characters : position_of (195 ∷ 169 ∷ codes "b") 2 ≡ place 1 2
unfolding chars
columns_count_characters = refl

-- a line feed is at the end of its line
of_a_line_feed : position_of (codes "ab\ncd") 2 ≡ place 1 3
unfolding chars
of_a_line_feed = refl

behind_a_line_feed : position_of (codes "ab\ncd") 3 ≡ place 2 1
unfolding chars
behind_a_line_feed = refl

the_end : position_of (codes "a\n\nb") 4 ≡ place 3 2
unfolding chars
the_end = refl

a_line_feed_counted_before_it : position_of (codes "ab\ncd") 2 ≢ place 2 1
unfolding chars
a_line_feed_counted_before_it e = let n : 1 ≡ 2 = ap (λ (p : Position). p.line) e in omega (arith, n)

-- ---- bytes that aren't UTF-8

-- 0xFF can't stand in a character, and is a column; 0x80 only follows another byte, and is none
a_column_for_each_first_byte : byte_place (97 ∷ 255 ∷ 128 ∷ 128 ∷ []) ≡ place 1 3
a_column_for_each_first_byte = refl

a_line_feed_among_bad_bytes : byte_place (255 ∷ 10 ∷ 128 ∷ 255 ∷ 254 ∷ []) ≡ place 2 3
a_line_feed_among_bad_bytes = refl

before_a_bad_byte : byte_place_of (97 ∷ 195 ∷ 169 ∷ 255 ∷ []) 3 ≡ place 1 3
before_a_bad_byte = refl

no_column_for_each_byte : byte_place (128 ∷ []) ≢ place 1 2
no_column_for_each_byte e = let n : 1 ≡ 2 = ap (λ (p : Position). p.column) e in omega (arith, n)

-- ---- places in places

-- what begins in the middle of a line ends in that line or in a later one
in_the_same_line : moved (place 7 3) (place 1 5) ≡ place 7 7
in_the_same_line = refl

in_a_later_line : moved (place 7 3) (place 3 5) ≡ place 9 5
in_a_later_line = refl

behind_a_text : place_after (place 7 3) (codes "ab\ncd") ≡ place 8 3
unfolding chars
behind_a_text = refl

the_last_place_fits : Fits (place 0xFFFF_FFFF_FFFF_FFFF 1)
the_last_place_fits = (omega arith, omega arith)

a_line_further_does_not : ¬ Fits (moved (place 0xFFFF_FFFF_FFFF_FFFF 1) (place 2 1))
a_line_further_does_not f = omega (arith, f.0)

an_earlier_line_comes_first : IsBefore (place 1 9) (place 2 1)
an_earlier_line_comes_first = inl (omega arith)

then_an_earlier_column : ¬ IsBefore (place 2 2) (place 2 1)
then_an_earlier_column (inl l) = absurd (omega (arith, l))
then_an_earlier_column (inr c) = absurd (omega (arith, c.1))
