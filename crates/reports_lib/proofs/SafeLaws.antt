-- What is safe to show: quoted forms, and lines of a file with a caret below.
use Rattle.std.proofs.Common.{◌≡◌, ◌≢◌, ℕ, zero, suc, ◌-◌, ◌/◌, ◌%◌, ◌<◌, ◌≤◌, ◌⊎◌, inl, inr, Bool, true, false, ◌&&◌, ◌||◌, List, [], ◌∷◌, ◌++◌, length, map, take, drop, Option, Some, None, flat_map, codes, decimal, refl, sym, ap, subst, ◌∙◌, arith, IsUtf8, append-nil, get_or, length-append}
use Rattle.std.specs.Prelude.{not, nat_le, nat_lt, ◌==◌, if◌then◌else◌, option_map, unwrap_or, slice_get}
use Rattle.std.specs.Bool.{then_some}
use Rattle.std.specs.Char.{IsScalar, encode_utf8}
use Rattle.std.specs.Fmt.{digit_glyph, digits, digits_onto}
use Rattle.std.specs.List.{list_all, repeat}
use Rattle.std.specs.Str.{NoCharPasses, chars, all_scalars, encode_utf8_all, is_utf8}
use Rattle.std.proofs.lemmas.Bool.{and_parts, cases_eq}
use Rattle.std.proofs.lemmas.Bool.Decides.{nat_tests}
use Rattle.std.proofs.lemmas.List.{get_or_at, take_at}
use Rattle.std.proofs.lemmas.Str.{encode_ascii, scalars-chars, IsUtf8-nil, IsUtf8-append, IsUtf8-encode, IsUtf8-from_is_utf8, IsUtf8-take, IsCharBoundary-before_ascii, NoCharPasses-nil, NoCharPasses-append, NoCharPasses-byte}
use Rattle.ucd_category.proofs.Computing.{ucd_category}
use Rattle.ucd_derived.proofs.Computing.{ucd_derived}
use Rattle.bajofeki_rules.specs.Quoted.{is_character, is_unseen, short_escape, told_by, told, quoted, value_told, quoted_word}
use Rattle.bajofeki_rules.proofs.ByteRuns.{EachPlain, quoted_as_is}
use Rattle.bajofeki_rules.proofs.Quotes.{quoted_is_seen}
use Rattle.lalrpop_rule_file.specs.RuleFile.{without_return}
use Rattle.lalrpop_rule_file.proofs.Returns.{return_parts}
use Rattle.reports_lib.specs.PieceLines.{byte_told, slice_told}
use Rattle.reports_lib.specs.Safe.{IsSafe, can_steer}
use Rattle.reports_lib.specs.ShownLine.{sign, signs_of, signs_at, dots, shown, first_shown, pointed, numbered}

-- ---- characters

pub safe_char : (c : ℕ) → IsScalar c → can_steer c ≡ false → IsSafe (encode_utf8 c)
safe_char c is seen = record { text = IsUtf8-encode c is; seen = (c ∷ [], append-nil (encode_utf8 c), (seen, tt)) }

pub seen_steers_not : (c : ℕ) → is_unseen c ≡ false → can_steer c ≡ false
seen_steers_not c seen = ap (λ (t : Bool). t && not (c == 10)) seen

-- the sign for a character that isn't seen, U+FFFD, and dots, U+2026, are seen
signs_are_seen : (is_unseen 65533 ≡ false) × (is_unseen 8230 ≡ false)
unfolding ucd_category ucd_derived
signs_are_seen = (refl, refl)

-- a quoted form has only characters that are seen, among them each of ASCII from the blank to `~`
quote_is_seen : is_unseen 34 ≡ false
quote_is_seen = NoCharPasses-byte is_unseen (quoted []) 0 (quoted_is_seen [] IsUtf8-nil) (omega arith) (omega arith)

backslash_is_seen : is_unseen 92 ≡ false
unfolding chars encode_utf8
backslash_is_seen =
    let utf8 : IsUtf8 (codes "\n") = (codes "\n", (refl, refl)) in
    NoCharPasses-byte is_unseen (quoted (codes "\n")) 1 (quoted_is_seen (codes "\n") utf8) (omega arith) (omega arith)

pub ascii_is_seen : (b : ℕ) → 32 ≤ b → b < 127 → is_unseen b ≡ false
ascii_is_seen b low high = by (cases_eq b 34) (cases_eq b 92)
  where
    by : (b ≡ 34) ⊎ (b ≢ 34) → (b ≡ 92) ⊎ (b ≢ 92) → is_unseen b ≡ false
    by (inl is) other = ap is_unseen is ∙ quote_is_seen
    by (inr quote) (inl is) = ap is_unseen is ∙ backslash_is_seen
    by (inr quote) (inr backslash) =
        let scalar : IsScalar b = grind (arith, nat_tests) in
        let utf8 : IsUtf8 (b ∷ []) = subst IsUtf8 (encode_ascii b (omega arith)) (IsUtf8-encode b scalar) in
        let plain : EachPlain (b ∷ []) = each in
        let seen : NoCharPasses is_unseen (34 ∷ b ∷ 34 ∷ []) = subst (NoCharPasses is_unseen) (quoted_as_is (b ∷ []) plain) (quoted_is_seen (b ∷ []) utf8) in
        NoCharPasses-byte is_unseen (34 ∷ b ∷ 34 ∷ []) 1 seen (omega arith) (omega arith)
      where
        each : EachPlain (b ∷ [])
        each zero within = record { low = low; high = omega arith; quote = quote; backslash = backslash }
        each (suc k) within = absurd (omega arith)

-- ---- bytes

pub safe_nil : IsSafe []
safe_nil = record { text = IsUtf8-nil; seen = NoCharPasses-nil can_steer }

pub safe_append : {xs ys : List ℕ} → IsSafe xs → IsSafe ys → IsSafe (xs ++ ys)
safe_append {xs} {ys} x y = record { text = IsUtf8-append xs ys x.text y.text; seen = NoCharPasses-append can_steer xs ys x.seen y.seen }

-- a line feed, or a character of ASCII that is seen
abbrev pub is_printed : ℕ → Bool
is_printed b = b == 10 || (nat_le 32 b && nat_lt b 127)

printed_is_safe : (b : ℕ) → is_printed b ≡ true → IsSafe (b ∷ [])
printed_is_safe b printed =
    let small : b < 128 = grind (arith, nat_tests) in
    let scalar : IsScalar b = grind (arith, nat_tests) in
    subst IsSafe (encode_ascii b small) (safe_char b scalar (by (cases_eq b 10)))
  where
    by : (b ≡ 10) ⊎ (b ≡ 10 → ⊥) → can_steer b ≡ false
    by (inl feed) = rw feed refl
    by (inr other) = seen_steers_not b (ascii_is_seen b (grind (arith, nat_tests)) (grind (arith, nat_tests)))

pub plain_is_safe : (bs : List ℕ) → list_all is_printed bs ≡ true → IsSafe bs
plain_is_safe [] printed = safe_nil
plain_is_safe (b ∷ bs) printed =
    let parts = and_parts (is_printed b) (list_all is_printed bs) printed in safe_append (printed_is_safe b parts.0) (plain_is_safe bs parts.1)

-- such a text, and then more
pub said : (text : List ℕ) {rest : List ℕ} → list_all is_printed text ≡ true → IsSafe rest → IsSafe (text ++ rest)
said text printed rest = safe_append (plain_is_safe text printed) rest

-- ---- numbers

glyph_is_printed : (d : ℕ) → d < 16 → is_printed (digit_glyph false d) ≡ true
glyph_is_printed d small = grind (arith, nat_tests)

either : (t : Bool) (one other : List ℕ) → list_all is_printed one ≡ true → list_all is_printed other ≡ true → list_all is_printed (if t then one else other) ≡ true
either true one other first second = first
either false one other first second = second

digits_are_printed : (k base n : ℕ) (acc : List ℕ) → 1 ≤ base → base ≤ 16 → list_all is_printed acc ≡ true → list_all is_printed (digits_onto k base false n acc) ≡ true
digits_are_printed zero base n acc low high printed = printed
digits_are_printed (suc k) base n acc low high printed =
    let glyph = digit_glyph false (n % base) in
    let small : n % base < 16 = omega arith in
    let more : list_all is_printed (glyph ∷ acc) ≡ true = rw (glyph_is_printed (n % base) small) printed in
    either (n / base == 0) (glyph ∷ acc) (digits_onto k base false (n / base) (glyph ∷ acc)) more (digits_are_printed k base (n / base) (glyph ∷ acc) low high more)

pub decimal_is_safe : (n : ℕ) → IsSafe (decimal n)
unfolding digits
decimal_is_safe n = plain_is_safe (decimal n) (digits_are_printed 64 10 n [] (omega arith) (omega arith) refl)

hexadecimal_is_safe : (n : ℕ) → IsSafe (digits 16 false n)
unfolding digits
hexadecimal_is_safe n = plain_is_safe (digits 16 false n) (digits_are_printed 64 16 n [] (omega arith) (omega arith) refl)

-- ---- quoted forms

number_is_safe : (c : ℕ) → IsSafe (codes "\\u{" ++ (digits 16 false c ++ codes "}"))
number_is_safe c = said (codes "\\u{") refl (safe_append (hexadecimal_is_safe c) (plain_is_safe (codes "}") refl))

-- an escape, if there is one, is printed
record IsPrintedIfSome (escape : Option (List ℕ)) : Type 0 where
  printed : list_all is_printed (unwrap_or escape []) ≡ true

no_escape : IsPrintedIfSome None
no_escape = record { printed = refl }

escape_or : (t : Bool) (text : List ℕ) (other : Option (List ℕ)) → list_all is_printed text ≡ true → IsPrintedIfSome other → IsPrintedIfSome (if t then Some text else other)
escape_or true text other printed more = record { printed = printed }
escape_or false text other printed more = more

escape_is_printed : (c : ℕ) → IsPrintedIfSome (short_escape c)
escape_is_printed c =
    escape_or (c == 34) (codes "\\\"") _ refl (escape_or (c == 92) (codes "\\\\") _ refl (escape_or (c == 10) (codes "\\n") _ refl
    (escape_or (c == 13) (codes "\\r") _ refl (escape_or (c == 9) (codes "\\t") _ refl no_escape))))

-- a character as messages show it
pub told_is_safe : (c : ℕ) → IsScalar c → IsSafe (told c)
told_is_safe c scalar = by (short_escape c) (escape_is_printed c) (is_unseen c) refl
  where
    by : (escape : Option (List ℕ)) → IsPrintedIfSome escape → (unseen : Bool) → is_unseen c ≡ unseen → IsSafe (told_by escape c)
    by (Some escape) is unseen seen = plain_is_safe escape is.printed
    by None is true seen = rw seen (number_is_safe c)
    by None is false seen = rw seen (safe_char c scalar (seen_steers_not c seen))

told_are_safe : (cs : List ℕ) → all_scalars cs ≡ true → IsSafe (flat_map told cs)
told_are_safe [] scalars = safe_nil
told_are_safe (c ∷ cs) scalars = let parts = and_parts _ (all_scalars cs) scalars in safe_append (told_is_safe c parts.0) (told_are_safe cs parts.1)

in_quotes : {text : List ℕ} → IsSafe text → IsSafe (codes "\"" ++ (text ++ codes "\""))
in_quotes safe = said (codes "\"") refl (safe_append safe (plain_is_safe (codes "\"") refl))

pub quoted_is_safe : (slice : List ℕ) → IsUtf8 slice → IsSafe (quoted slice)
quoted_is_safe slice utf8 = in_quotes (told_are_safe (chars slice) (scalars-chars slice utf8))

pub byte_is_safe : (b : ℕ) → IsSafe (byte_told b)
byte_is_safe b = by (nat_lt b 128) refl
  where
    by : (t : Bool) → nat_lt b 128 ≡ t → IsSafe (if t then told b else (codes "\\x" ++ digits 16 false b))
    by true is = let scalar : IsScalar b = grind (arith, nat_tests) in told_is_safe b scalar
    by false is = said (codes "\\x") refl (hexadecimal_is_safe b)

bytes_are_safe : (bs : List ℕ) → IsSafe (flat_map byte_told bs)
bytes_are_safe [] = safe_nil
bytes_are_safe (b ∷ bs) = safe_append (byte_is_safe b) (bytes_are_safe bs)

-- a slice of a text, whatever its bytes are
pub slice_is_safe : (slice : List ℕ) → IsSafe (slice_told slice)
slice_is_safe slice = by (is_utf8 slice) refl
  where
    by : (t : Bool) → is_utf8 slice ≡ t → IsSafe (if t then quoted slice else (codes "\"" ++ (flat_map byte_told slice ++ codes "\"")))
    by true is = quoted_is_safe slice (IsUtf8-from_is_utf8 slice is)
    by false is = in_quotes (bytes_are_safe slice)

value_is_safe : (n : ℕ) → IsSafe (value_told n)
value_is_safe n = by (is_character n) refl
  where
    by : (t : Bool) → is_character n ≡ t → IsSafe (if t then told n else (codes "\\u{" ++ (digits 16 false n ++ codes "}")))
    by true is = let scalar : IsScalar n = grind (arith, nat_tests) in told_is_safe n scalar
    by false is = number_is_safe n

values_are_safe : (w : List ℕ) → IsSafe (flat_map value_told w)
values_are_safe [] = safe_nil
values_are_safe (n ∷ w) = safe_append (value_is_safe n) (values_are_safe w)

-- any word
pub quoted_word_is_safe : (w : List ℕ) → IsSafe (quoted_word w)
quoted_word_is_safe w = in_quotes (values_are_safe w)

-- ---- a line of a file

-- characters that are seen
abbrev AreSigns : List ℕ → Type 0
AreSigns [] = Unit {0}
AreSigns (c ∷ cs) = (IsScalar c × (is_unseen c ≡ false)) × AreSigns cs

signs_are_safe : (cs : List ℕ) → AreSigns cs → IsSafe (encode_utf8_all cs)
signs_are_safe [] signs = safe_nil
signs_are_safe (c ∷ cs) signs = safe_append (safe_char c signs.0.0 (seen_steers_not c signs.0.1)) (signs_are_safe cs signs.1)

AreSigns-append : (cs ds : List ℕ) → AreSigns cs → AreSigns ds → AreSigns (cs ++ ds)
AreSigns-append [] ds one two = two
AreSigns-append (c ∷ cs) ds one two = (one.0, AreSigns-append cs ds one.1 two)

AreSigns-take : (n : ℕ) (cs : List ℕ) → AreSigns cs → AreSigns (take n cs)
AreSigns-take zero cs signs = tt
AreSigns-take (suc n) [] signs = tt
AreSigns-take (suc n) (c ∷ cs) signs = (signs.0, AreSigns-take n cs signs.1)

AreSigns-drop : (n : ℕ) (cs : List ℕ) → AreSigns cs → AreSigns (drop n cs)
AreSigns-drop zero cs signs = signs
AreSigns-drop (suc n) [] signs = tt
AreSigns-drop (suc n) (c ∷ cs) signs = AreSigns-drop n cs signs.1

dots_are_signs : (n : ℕ) → AreSigns (dots n)
dots_are_signs zero = tt
dots_are_signs (suc n) = ((refl, signs_are_seen.1), tt)

sign_is : (c : ℕ) → IsScalar c → IsScalar (sign c) × (is_unseen (sign c) ≡ false)
sign_is c scalar = by (c == 9) (is_unseen c) refl
  where
    by : (tab unseen : Bool) → is_unseen c ≡ unseen
        → IsScalar (if tab then 32 else (if unseen then 65533 else c)) × (is_unseen (if tab then 32 else (if unseen then 65533 else c)) ≡ false)
    by true unseen is = (refl, ascii_is_seen 32 (omega arith) (omega arith))
    by false true is = (refl, signs_are_seen.0)
    by false false is = (scalar, is)

map_is_signs : (cs : List ℕ) → all_scalars cs ≡ true → AreSigns (map sign cs)
map_is_signs [] scalars = tt
map_is_signs (c ∷ cs) scalars = let parts = and_parts _ (all_scalars cs) scalars in (sign_is c parts.0, map_is_signs cs parts.1)

without_return_is_text : (line : List ℕ) → IsUtf8 line → IsUtf8 (without_return line)
without_return_is_text line utf8 = by (return_parts line)
  where
    by : (without_return line ≡ line) ⊎ (line ≡ without_return line ++ (13 ∷ [])) → IsUtf8 (without_return line)
    by (inl same) = subst IsUtf8 (sym same) utf8
    by (inr parts) =
        let front = without_return line in
        let within : length front < length line = omega (arith, ap length parts, length-append front (13 ∷ [])) in
        let byte : get_or line (length front) 0 ≡ 13 = ap (λ (l : List ℕ). get_or l (length front) 0) parts ∙ get_or_at front 13 [] 0 (length front) refl in
        let cut : take (length front) line ≡ front = ap (take (length front)) parts ∙ take_at front (13 ∷ []) (length front) refl in
        subst IsUtf8 cut (IsUtf8-take line (length front) utf8 (IsCharBoundary-before_ascii line (length front) within (omega (arith, byte))))

abbrev HasSigns : Option (List ℕ) → Type 0
HasSigns None = Unit {0}
HasSigns (Some signs) = AreSigns signs

line_has_signs : (line : List ℕ) → HasSigns (signs_of line)
line_has_signs line = by (is_utf8 line) refl
  where
    by : (t : Bool) → is_utf8 line ≡ t → HasSigns (then_some t (map sign (chars (without_return line))))
    by true is = map_is_signs _ (scalars-chars _ (without_return_is_text line (IsUtf8-from_is_utf8 line is)))
    by false is = tt

has_signs_at : (ls : List (List ℕ)) (n : ℕ) → HasSigns (signs_at ls n)
has_signs_at ls n = line_has_signs (unwrap_or (slice_get ls (n - 1)) [])

shown_is_safe : (before : ℕ) (signs : List ℕ) → AreSigns signs → IsSafe (shown before signs)
shown_is_safe before signs are =
    signs_are_safe _ (AreSigns-append (dots before) _ (dots_are_signs before)
    (AreSigns-append (take 160 signs) _ (AreSigns-take 160 signs are) (dots_are_signs (length signs - 160))))

blanks_are_safe : (n : ℕ) → IsSafe (repeat n (codes " "))
blanks_are_safe zero = safe_nil
blanks_are_safe (suc n) = said (codes " ") refl (blanks_are_safe n)

-- the line with a caret under a place
pub pointed_is_safe : (ls : List (List ℕ)) (n place : ℕ) → IsSafe (pointed (signs_at ls n) place)
pointed_is_safe ls n place = by (signs_at ls n) (has_signs_at ls n)
  where
    by : (signs : Option (List ℕ)) → HasSigns signs → IsSafe (pointed signs place)
    by None has = safe_nil
    by (Some signs) has =
        let first = first_shown (length signs) place in
        said (codes "    ") refl (safe_append (shown_is_safe first (drop first signs) (AreSigns-drop first signs has))
        (said (codes "\n    ") refl (safe_append (blanks_are_safe _) (plain_is_safe (codes "^\n") refl))))

-- the line after its number
pub numbered_is_safe : (ls : List (List ℕ)) (n : ℕ) → IsSafe (numbered ls n)
numbered_is_safe ls n = said (codes "    ") refl (safe_append (decimal_is_safe n) (said (codes ": ") refl (safe_append (by (signs_at ls n) (has_signs_at ls n)) (plain_is_safe (codes "\n") refl))))
  where
    by : (signs : Option (List ℕ)) → HasSigns signs → IsSafe (unwrap_or (option_map (shown 0) signs) [])
    by None has = safe_nil
    by (Some signs) has = shown_is_safe 0 signs has
