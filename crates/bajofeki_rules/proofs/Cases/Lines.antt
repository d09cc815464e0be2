-- Cases of specs/Lines.antt.
use Rattle.std.proofs.Common.{◌≡◌, [], ◌∷◌, codes, refl}
use Rattle.bajofeki_rules.specs.Lines.{begin_with, lines}

-- no bytes, no lines
no_bytes_have_no_lines : lines (codes "") ≡ []
no_bytes_have_no_lines = refl

-- the last line may lack its line feed
line_without_a_line_feed : lines (codes "a\nb") ≡ codes "a" ∷ codes "b" ∷ []
line_without_a_line_feed = refl

-- a line feed at the end does not begin another line
line_feed_at_the_end : lines (codes "a\nb\n") ≡ codes "a" ∷ codes "b" ∷ []
line_feed_at_the_end = refl

-- and each further one ends an empty line
line_feeds_at_the_end : lines (codes "a\n\n") ≡ codes "a" ∷ [] ∷ []
line_feeds_at_the_end = refl

-- a carriage return is part of its line
carriage_return_stays : lines (codes "a\r\n") ≡ codes "a\r" ∷ []
carriage_return_stays = refl

-- a byte before lines belongs to the first one
byte_before_lines : (begin_with 97 (codes "b" ∷ codes "c" ∷ []) ≡ codes "ab" ∷ codes "c" ∷ []) × (begin_with 97 [] ≡ codes "a" ∷ [])
byte_before_lines = (refl, refl)
