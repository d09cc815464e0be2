-- Cases of specs/Terminal.antt.
use Rattle.std.proofs.Common.{◌≡◌, ◌≢◌, ℕ, List, length, get_or, length-append, codes, refl, ap, ◌∙◌, arith, true, false, [], ◌∷◌, ◌++◌}
use lib.Utf8.{encode}
use Rattle.std.proofs.lemmas.List.{get_or_push}
use Rattle.bajofeki.specs.Terminal.{sequence, reset, is_hidden, visible, visible_in, colour_of, unpainted, IsSequence}

escape_is_hidden : is_hidden 27 ≡ true
escape_is_hidden = refl

newline_is_shown : is_hidden 10 ≡ false
newline_is_shown = refl

letter_is_shown : is_hidden 97 ≡ false
letter_is_shown = refl

-- ESC is `^[` in reverse, a carriage return `^M`, 127 `^?` and 155 `~[`
escape : visible 27 ≡ sequence (codes "7") ++ (codes "^[" ++ sequence (codes "27"))
escape = refl

carriage_return : visible 13 ≡ sequence (codes "7") ++ (codes "^M" ++ sequence (codes "27"))
carriage_return = refl

delete : visible 127 ≡ sequence (codes "7") ++ (codes "^?" ++ sequence (codes "27"))
delete = refl

past_ascii : visible 155 ≡ sequence (codes "7") ++ (codes "~[" ++ sequence (codes "27"))
past_ascii = refl

-- what looks like one is itself
caret : visible 94 ≡ codes "^"
unfolding encode
caret = refl

-- no colour goes over the end of a line
line_ends_its_colour : visible_in (codes "31") 10 ≡ reset ++ (10 ∷ sequence (codes "31"))
line_ends_its_colour = refl

-- a name has the colour of its first rule, and the seventh rule that of the first
first_of_its_name : colour_of (codes "a" ∷ codes "b" ∷ codes "b" ∷ []) (codes "b") ≡ codes "32"
first_of_its_name = refl

seventh : colour_of (codes "a" ∷ codes "b" ∷ codes "c" ∷ codes "d" ∷ codes "e" ∷ codes "f" ∷ codes "g" ∷ []) (codes "g") ≡ codes "31"
seventh = refl

-- sequences are taken out, and letters undone
text_of_a_colour : unpainted (sequence (codes "31") ++ (codes "a^[" ++ reset)) ≡ codes "a^["
text_of_a_colour = refl

text_of_letters : unpainted (sequence (codes "7") ++ (codes "^[" ++ (sequence (codes "27") ++ codes "[7m"))) ≡ 27 ∷ codes "[7m"
unfolding encode
text_of_letters = refl

text_past_ascii : unpainted (sequence (codes "7") ++ (codes "~[" ++ sequence (codes "27"))) ≡ 194 ∷ 155 ∷ []
unfolding encode
text_past_ascii = refl

-- an ESC that is written as itself is lost
escape_left_alone : unpainted (27 ∷ codes "[1ma") ≢ 27 ∷ codes "[1ma"
escape_left_alone e = let n : 1 ≡ 5 = ap length e in omega (arith, n)

-- a sequence has a number and ends in `m`: what clears the screen is none
red : IsSequence (27 ∷ codes "[31m")
red = (codes "31", (refl, (omega arith, (omega arith, (omega arith, tt)))))

clear_screen : ¬ IsSequence (27 ∷ codes "[2J")
clear_screen (number, (is, digits)) =
    let tail : codes "2J" ≡ number ++ codes "m" = cc in
    let n : length number ≡ 1 = omega (arith, ap length tail, length-append number (codes "m")) in
    let last : 74 ≡ 109 = ap (λ (bytes : List ℕ). get_or bytes 1 0) tail ∙ get_or_push number 109 0 1 n in
    omega (arith, last)

without_a_number : ¬ IsSequence (27 ∷ codes "[m")
without_a_number (number, (is, (some, digits))) = omega (arith, ap length is, length-append number (codes "m"), some)
