-- cases: proofs/Cases/Quoted.antt
-- A slice or a word in quotes.
use Rattle.std.specs.Prelude.{ℕ, Bool, false, ◌&&◌, ◌||◌, nat_lt, List, ◌++◌, Option, Some, None, codes, chars, encode_utf8, flat_map, if◌then◌else◌, ◌==◌}
use Rattle.std.specs.Char.{is_control}
use Rattle.std.specs.Fmt.{digits}
use Rattle.ucd_category.specs.GeneralCategory.{general_category, general_category_eq}
use Rattle.ucd_category.specs.declared.GeneralCategory.TheVariants.{Unassigned}
use Rattle.unicode.specs.Binary.{is_default_ignorable_code_point}

-- a quote, a backslash, a line feed, a carriage return and a tab are written as a backslash and one character
abbrev pub short_escape : ℕ → Option (List ℕ)
short_escape c =
    if c == 34 then Some (codes "\\\"") else (
    if c == 92 then Some (codes "\\\\") else (
    if c == 10 then Some (codes "\\n") else (
    if c == 13 then Some (codes "\\r") else (
    if c == 9 then Some (codes "\\t") else None))))

-- a character that isn't seen: a control character, the separator of lines, U+2028, or of paragraphs, U+2029, one that Unicode lets be
-- shown as nothing, as a soft hyphen, a joiner, a mark of direction, a tag and a variation selector are, or one that it hasn't assigned
abbrev pub is_unseen : ℕ → Bool
is_unseen c =
    is_control c || c == 8232 || c == 8233 || is_default_ignorable_code_point c || general_category_eq (general_category c) Unassigned

-- what is written for a character: its short escape, if it has one; for another that isn't seen, the number in hexadecimal;
-- otherwise the character itself
abbrev pub told_by : Option (List ℕ) → ℕ → List ℕ
told_by (Some escape) c = escape
told_by None c = if is_unseen c then codes "\\u{" ++ (digits 16 false c ++ codes "}") else encode_utf8 c

abbrev pub told : ℕ → List ℕ
told c = told_by (short_escape c) c

-- the characters of the slice between two quotes
abbrev pub quoted : List ℕ → List ℕ
quoted slice = codes "\"" ++ (flat_map told (chars slice) ++ codes "\"")

-- ---- a word in quotes

-- the value is a character: neither a surrogate nor too large
abbrev pub is_character : ℕ → Bool
is_character n = nat_lt n 55296 || (nat_lt 57343 n && nat_lt n 1114112)

-- a character is written as in a quoted slice, any other value as its number in hexadecimal
abbrev pub value_told : ℕ → List ℕ
value_told n = if is_character n then told n else (codes "\\u{" ++ (digits 16 false n ++ codes "}"))

abbrev pub quoted_word : List ℕ → List ℕ
quoted_word w = codes "\"" ++ (flat_map value_told w ++ codes "\"")
