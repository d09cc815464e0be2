-- Printed JSON whose characters are seen stays as it is.
use Rattle.std.proofs.Common.{◌≡◌, ℕ, zero, suc, ◌-◌, ◌<◌, ◌≤◌, true, false, List, [], ◌∷◌, ◌++◌, length, take, drop, flat_map, codes, IsUtf8, refl, sym, ap, ◌∙◌, arith}
use Rattle.std.specs.List.{list_all}
use Rattle.std.specs.Char.{encode_utf8}
use Rattle.std.specs.Str.{IsAscii, chars, encode_utf8_all}
use Rattle.std.proofs.lemmas.Bool.{and_parts}
use Rattle.std.proofs.lemmas.Bool.Decides.{nat_tests}
use Rattle.std.proofs.lemmas.Grind.{flat_map-append}
use Rattle.std.proofs.lemmas.List.{length-drop, take_all}
use Rattle.std.proofs.lemmas.Str.{chars-IsAscii, encode_ascii, encodes-append, encodes-chars, IsUtf8-from_ascii, utf8_lossy-IsUtf8}
use Rattle.bajofeki_rules.specs.Quoted.{is_unseen}
use Rattle.reports_lib.specs.Internal.SeenBytes.{is_seen_in_ascii}
use Rattle.reports_lib.specs.PieceLines.{escaped, json_told}
use Rattle.reports_lib.proofs.SafeLaws.{ascii_is_seen}

-- what an index to the end cuts out
pub rest_of : (n : ℕ) (ys xs : List ℕ) → ys ≡ xs → take (length ys - n) (drop n ys) ≡ drop n xs
rest_of n ys xs same = take_all (length ys - n) (drop n ys) (omega (arith, length-drop n ys)) ∙ ap (drop n) same

are_ascii : (xs : List ℕ) → list_all is_seen_in_ascii xs ≡ true → IsAscii xs
are_ascii [] seen i = omega arith
are_ascii (x ∷ xs) seen zero = let parts = and_parts (is_seen_in_ascii x) (list_all is_seen_in_ascii xs) seen in let first = parts.0 in grind (arith, nat_tests)
are_ascii (x ∷ xs) seen (suc i) = are_ascii xs (and_parts (is_seen_in_ascii x) (list_all is_seen_in_ascii xs) seen).1 i

told_as_is : (x : ℕ) → is_seen_in_ascii x ≡ true → json_told x ≡ x ∷ []
told_as_is x seen =
    let low : 32 ≤ x = grind (arith, nat_tests) in
    let high : x < 127 = grind (arith, nat_tests) in
    rw (ascii_is_seen x low high) (encode_ascii x (omega arith))

all_told : (xs : List ℕ) → list_all is_seen_in_ascii xs ≡ true → flat_map json_told xs ≡ xs
all_told [] seen = refl
all_told (x ∷ xs) seen =
    let parts = and_parts (is_seen_in_ascii x) (list_all is_seen_in_ascii xs) seen in
    ap (λ (t : List ℕ). t ++ flat_map json_told xs) (told_as_is x parts.0) ∙ ap (λ (t : List ℕ). x ∷ t) (all_told xs parts.1)

pub escaped_as_is : (xs : List ℕ) → list_all is_seen_in_ascii xs ≡ true → escaped xs ≡ xs
escaped_as_is xs seen =
    let ascii = are_ascii xs seen in
    ap (λ (t : List ℕ). flat_map json_told (chars t)) (utf8_lossy-IsUtf8 xs (IsUtf8-from_ascii xs ascii)) ∙ ap (flat_map json_told) (chars-IsAscii xs ascii) ∙ all_told xs seen

-- a line of such JSON
pub line_as_is : (printed : List ℕ) → list_all is_seen_in_ascii printed ≡ true → escaped printed ++ codes "\n" ≡ printed ++ codes "\n"
line_as_is printed seen = ap (λ (t : List ℕ). t ++ codes "\n") (escaped_as_is printed seen)

-- ---- characters that are seen

pub one_more : (cs : List ℕ) (c : ℕ) → is_unseen c ≡ false → flat_map json_told cs ≡ encode_utf8_all cs → flat_map json_told (cs ++ c ∷ []) ≡ encode_utf8_all (cs ++ c ∷ [])
one_more cs c seen before =
    let told : json_told c ≡ encode_utf8 c = rw seen refl in
    flat_map-append json_told cs (c ∷ []) ∙ ap (λ (t : List ℕ). t ++ (json_told c ++ [])) before
    ∙ ap (λ (t : List ℕ). encode_utf8_all cs ++ (t ++ [])) told ∙ sym (encodes-append cs (c ∷ []))

pub all_as_is : (text : List ℕ) → IsUtf8 text → flat_map json_told (chars text) ≡ encode_utf8_all (chars text) → escaped text ≡ text
all_as_is text utf8 seen = ap (λ (t : List ℕ). flat_map json_told (chars t)) (utf8_lossy-IsUtf8 text utf8) ∙ seen ∙ encodes-chars text utf8
