-- Cases of specs/BytePositions.antt.
use Rattle.std.proofs.Common.{◌≡◌, ◌≢◌, ℕ, List, ◌∷◌, [], codes, refl, ap, arith}
use Rattle.lalrpop_emit.specs.BytePositions.{byte_position_of}
use Rattle.lalrpop_emit.specs.declared.byte_positions.BytePosition.{BytePosition}

abbrev place : ℕ → ℕ → ℕ → BytePosition
place at line column = record { at = at; line = line; column = column }

-- the bytes 128 to 191 only follow another, and are no columns
abbrev edges : List ℕ
edges = 127 ∷ 128 ∷ 191 ∷ 192 ∷ []

the_greatest_letter_begins : byte_position_of edges 1 ≡ place 1 1 2
the_greatest_letter_begins = refl

these_bytes_follow : byte_position_of edges 3 ≡ place 3 1 2
these_bytes_follow = refl

the_first_byte_of_two_begins : byte_position_of edges 4 ≡ place 4 1 3
the_first_byte_of_two_begins = refl

the_beginning : byte_position_of (codes "ab") 0 ≡ place 0 1 1
the_beginning = refl

-- é has two bytes and is one character
columns_count_characters : byte_position_of (195 ∷ 169 ∷ codes "b") 2 ≡ place 2 1 2
columns_count_characters = refl

-- inside a character it is counted already
inside_a_character : byte_position_of (195 ∷ 169 ∷ codes "b") 1 ≡ place 1 1 2
inside_a_character = refl

-- a byte that stands in no character is a column, unless it is one that follows
bytes_that_are_no_text : byte_position_of (255 ∷ 128 ∷ 255 ∷ []) 3 ≡ place 3 1 3
bytes_that_are_no_text = refl

-- a line feed is at the end of its line
of_a_line_feed : byte_position_of (codes "ab\ncd") 2 ≡ place 2 1 3
of_a_line_feed = refl

behind_a_line_feed : byte_position_of (codes "ab\ncd") 3 ≡ place 3 2 1
behind_a_line_feed = refl

the_end : byte_position_of (codes "a\n\nb") 4 ≡ place 4 3 2
the_end = refl

a_line_feed_counted_before_it : byte_position_of (codes "ab\ncd") 2 ≢ place 2 2 1
a_line_feed_counted_before_it e = let n : 1 ≡ 2 = ap (λ (p : BytePosition). p.line) e in omega (arith, n)

a_column_for_each_byte : byte_position_of (195 ∷ 169 ∷ codes "b") 2 ≢ place 2 1 3
a_column_for_each_byte e = let n : 2 ≡ 3 = ap (λ (p : BytePosition). p.column) e in omega (arith, n)
