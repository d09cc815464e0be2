-- A page for a terminal has no control character, but newlines, tabs and those that begin its sequences.
use Rattle.std.proofs.Common.{◌≡◌, ◌≢◌, ℕ, ◌⊎◌, inl, inr, ◌<◌, ◌≤◌, true, false, List, [], ◌∷◌, ◌++◌, length, refl, sym, ap, subst, ◌∙◌, arith, flat_map, codes}
use Rattle.std.specs.Prelude.{Option, Some, None, slice_get, nat_eq}
use Rattle.std.specs.Char.{digit_value, encode_utf8}
use Rattle.std.specs.Str.{chars, encode_utf8_all, IsAscii, IsUtf8}
use Rattle.std.specs.Str.Parse.{AllDigits}
use Rattle.std.proofs.lemmas.Bool.Decides.{nat_tests}
use Rattle.std.proofs.lemmas.List.{append-nil}
use Rattle.std.proofs.lemmas.Str.{chars_from_encodes, encodes-append, encodes-IsAscii}
use Rattle.std.proofs.lemmas.Str.Ascii.{IsAscii-nil, IsAscii-cons}
use Rattle.lalrpop_rules.specs.declared.piece.Piece.{Piece}
use Rattle.lalrpop_rules.specs.declared.piece.Piece.TheVariants.{Token, Skipped, Fault}
use Rattle.bajofeki.specs.Places.{EachBegins}
use Rattle.bajofeki.specs.Terminal.{sequence, reset, is_hidden, sign, letter, visible, visible_in, coloured, colour_of, by_name, painted, IsSequence}
use Rattle.bajofeki.proofs.Characters.{Lacks}
use Rattle.bajofeki.proofs.PlaceLaws.{begins_append, begins_nowhere, begins_whole, of_all}
use Rattle.bajofeki.proofs.TerminalReadings.{not_a_line, true_or_false}

-- each hidden character begins a sequence
abbrev pub AreShown : List ℕ → Type 0
AreShown cs = (c : ℕ) → is_hidden c ≡ true → EachBegins c IsSequence cs

-- the bytes are those of such characters
abbrev IsSafe : List ℕ → Type 0
IsSafe bytes = (cs : List ℕ) × ((encode_utf8_all cs ≡ bytes) × AreShown cs)

join : (xs ys : List ℕ) → IsSafe xs → IsSafe ys → IsSafe (xs ++ ys)
join xs ys (cs, (first, one)) (ds, (second, two)) =
    (cs ++ ds, (encodes-append cs ds ∙ ap (λ (l : List ℕ). l ++ encode_utf8_all ds) first ∙ ap (λ (l : List ℕ). xs ++ l) second, λ c hidden. begins_append c IsSequence cs ds (one c hidden) (two c hidden)))

-- ---- characters that aren't hidden

-- ASCII characters, none of them hidden
abbrev ArePlain : List ℕ → Type 0
ArePlain [] = Unit {0}
ArePlain (b ∷ bs) = (b < 128) × ((is_hidden b ≡ false) × ArePlain bs)

plain_append : (xs ys : List ℕ) → ArePlain xs → ArePlain ys → ArePlain (xs ++ ys)
plain_append [] ys one two = two
plain_append (x ∷ xs) ys one two = (one.0, (one.1.0, plain_append xs ys one.1.1 two))

ascii : (bs : List ℕ) → ArePlain bs → IsAscii bs
ascii [] plain = IsAscii-nil
ascii (b ∷ bs) plain = IsAscii-cons b bs plain.0 (ascii bs plain.1.1)

shown_is_not : (b c : ℕ) → is_hidden b ≡ false → is_hidden c ≡ true → b ≢ c
shown_is_not b c shown hidden same = let clash : is_hidden c ≡ false = subst (λ (d : ℕ). is_hidden d ≡ false) same shown in cc

lacks_hidden : (c : ℕ) (bs : List ℕ) → is_hidden c ≡ true → ArePlain bs → Lacks c bs
lacks_hidden c [] hidden plain = tt
lacks_hidden c (b ∷ bs) hidden plain = (shown_is_not b c plain.1.0 hidden, lacks_hidden c bs hidden plain.1.1)

plain_is_safe : (bs : List ℕ) → ArePlain bs → IsSafe bs
plain_is_safe bs plain = (bs, (encodes-IsAscii bs (ascii bs plain), λ c hidden. begins_nowhere c IsSequence bs (lacks_hidden c bs hidden plain)))

shown_is_safe : (d : ℕ) → is_hidden d ≡ false → IsSafe (encode_utf8 d)
shown_is_safe d shown = (d ∷ [], (append-nil (encode_utf8 d), λ c hidden. begins_nowhere c IsSequence (d ∷ []) (shown_is_not d c shown hidden, tt)))

printed : (c : ℕ) → 32 ≤ c → c < 127 → is_hidden c ≡ false
printed c low high = grind (arith, nat_tests)

-- ---- sequences

abbrev AreDigits : List ℕ → Type 0
AreDigits [] = Unit {0}
AreDigits (d ∷ ds) = (48 ≤ d) × ((d < 58) × AreDigits ds)

plain_digits : (ds : List ℕ) → AreDigits ds → ArePlain ds
plain_digits [] digits = tt
plain_digits (d ∷ ds) digits = (omega (arith, digits.1.0), (printed d (omega (arith, digits.0)) (omega (arith, digits.1.0)), plain_digits ds digits.1.1))

digit : (d : ℕ) → 48 ≤ d → d < 58 → digit_value d < 10
digit d low high = grind (arith, nat_tests)

all_digits : (ds : List ℕ) → AreDigits ds → AllDigits 10 ds
all_digits [] digits = tt
all_digits (d ∷ ds) digits = (digit d digits.0 digits.1.0, all_digits ds digits.1.1)

-- a decimal number: a digit, and perhaps more
abbrev pub IsDecimal : List ℕ → Type 0
IsDecimal number = (0 < length number) × AreDigits number

sequence_is_safe : (number : List ℕ) → IsDecimal number → IsSafe (sequence number)
sequence_is_safe number (some, digits) =
    let behind : List ℕ = 91 ∷ (number ++ codes "m") in
    let plain : ArePlain behind = (omega arith, (refl, plain_append number (codes "m") (plain_digits number digits) (omega arith, (refl, tt)))) in (
      27 ∷ behind,
      (
        encodes-IsAscii (27 ∷ behind) (IsAscii-cons 27 behind (omega arith) (ascii behind plain)),
        λ c hidden. begins_whole c 27 IsSequence behind (number, (refl, (some, all_digits number digits))) (lacks_hidden c behind hidden plain),
      ),
    )

seven : IsDecimal (codes "7")
seven = (omega arith, (omega arith, (omega arith, tt)))

twenty_seven : IsDecimal (codes "27")
twenty_seven = (omega arith, (omega arith, (omega arith, (omega arith, (omega arith, tt)))))

forty_one : IsDecimal (codes "41")
forty_one = (omega arith, (omega arith, (omega arith, (omega arith, (omega arith, tt)))))

reset_is_safe : IsSafe reset
reset_is_safe = sequence_is_safe (codes "0") (omega arith, (omega arith, (omega arith, tt)))

-- ---- characters

-- the letter of a hidden character
letter_is_printed : (c : ℕ) → is_hidden c ≡ true → (32 ≤ letter c) × (letter c < 127)
letter_is_printed c hidden = (grind (arith, nat_tests), grind (arith, nat_tests))

sign_is_printed : (c : ℕ) → (32 ≤ sign c) × (sign c < 127)
sign_is_printed c = (grind (arith, nat_tests), grind (arith, nat_tests))

plain_one : (b : ℕ) (bs : List ℕ) → (32 ≤ b) × (b < 127) → ArePlain bs → ArePlain (b ∷ bs)
plain_one b bs within plain = (omega (arith, within.1), (printed b within.0 within.1, plain))

letters : (c : ℕ) → is_hidden c ≡ true → ArePlain (sign c ∷ letter c ∷ [])
letters c hidden = plain_one (sign c) (letter c ∷ []) (sign_is_printed c) (plain_one (letter c) [] (letter_is_printed c hidden) tt)

visible_is_safe : (c : ℕ) → IsSafe (visible c)
visible_is_safe c = by (true_or_false (is_hidden c))
  where
    by : (is_hidden c ≡ true) ⊎ (is_hidden c ≡ false) → IsSafe (visible c)
    by (inl hidden) =
        rw hidden
        (join (sequence (codes "7")) (sign c ∷ letter c ∷ sequence (codes "27")) (sequence_is_safe (codes "7") seven)
        (join (sign c ∷ letter c ∷ []) (sequence (codes "27")) (plain_is_safe (sign c ∷ letter c ∷ []) (letters c hidden)) (sequence_is_safe (codes "27") twenty_seven)))
    by (inr shown) = rw shown (shown_is_safe c shown)

visible_in_is_safe : (colour : List ℕ) → IsDecimal colour → (c : ℕ) → IsSafe (visible_in colour c)
visible_in_is_safe colour is c = by (true_or_false (nat_eq c 10))
  where
    by : (nat_eq c 10 ≡ true) ⊎ (nat_eq c 10 ≡ false) → IsSafe (visible_in colour c)
    by (inl line) = rw line (join reset (10 ∷ sequence colour) reset_is_safe (join (10 ∷ []) (sequence colour) (plain_is_safe (10 ∷ []) (omega arith, (refl, tt))) (sequence_is_safe colour is)))
    by (inr other) = subst IsSafe (sym (not_a_line colour c other)) (visible_is_safe c)

-- ---- pieces

nothing : IsSafe []
nothing = plain_is_safe [] tt

shown_text : (text : List ℕ) → IsSafe (flat_map visible (chars text))
shown_text text = of_all IsSafe visible nothing join visible_is_safe (chars text)

coloured_is_safe : (colour text : List ℕ) → IsDecimal colour → IsSafe (coloured colour text)
coloured_is_safe colour text is =
    let inner : List ℕ = flat_map (visible_in colour) (chars text) in
    join (sequence colour) (inner ++ reset) (sequence_is_safe colour is)
    (join inner reset (of_all IsSafe (visible_in colour) nothing join (visible_in_is_safe colour is) (chars text)) reset_is_safe)

colour_is_decimal : (names : List (List ℕ)) (name : List ℕ) → IsDecimal (colour_of names name)
colour_is_decimal names name = (omega arith, (omega arith, (omega arith, (omega arith, (omega arith, tt)))))

by_name_is_safe : (names : List (List ℕ)) (name : Option (List ℕ)) (text : List ℕ) → IsSafe (by_name names name text)
by_name_is_safe names None text = shown_text text
by_name_is_safe names (Some name) text = coloured_is_safe (colour_of names name) text (colour_is_decimal names name)

painted_is_safe : (names : List (List ℕ)) (x : Piece) → IsSafe (painted names x)
painted_is_safe names (Token token) = by_name_is_safe names (slice_get names token.index) token.slice.now
painted_is_safe names (Skipped token) = shown_text token.slice.now
painted_is_safe names (Fault start slice) = coloured_is_safe (codes "41") slice.now forty_one

-- the characters of a page
pub page_is_safe : (names : List (List ℕ)) (xs : List Piece) (page : List ℕ) → IsUtf8 page → page ≡ flat_map (painted names) xs → AreShown (chars page)
page_is_safe names xs page u e =
    let all : IsSafe (flat_map (painted names) xs) = of_all IsSafe (painted names) nothing join (painted_is_safe names) xs in
    subst AreShown (chars_from_encodes all.0 page u (all.1.0 ∙ sym e)) all.1.1
