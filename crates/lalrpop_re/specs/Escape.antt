-- cases: proofs/Cases/Escape.antt
-- Escapes: what follows a backslash.
use Rattle.std.specs.Prelude.{◌≡◌, ℕ, suc, ◌+◌, ◌*◌, ◌<◌, Bool, true, false, not, ◌&&◌, ◌||◌, IsTrue, IsFalse, List, [], ◌∷◌, length, Some, if◌then◌else◌, codes}
use Rattle.std.specs.List.{list_all}
use Rattle.std.specs.Char.{is_ascii, is_ascii_alphanumeric, is_ascii_hexdigit, digit_value}
use Rattle.unicode.specs.Perl.{is_digit_char, is_space_char, is_word_char}
use Rattle.lalrpop_hir.specs.declared.look.Look.{Look}
use Rattle.lalrpop_hir.specs.declared.look.Look.TheVariants.{WordUnicode, WordUnicodeNegate, WordStartUnicode, WordEndUnicode, WordStartHalfUnicode, WordEndHalfUnicode, Start, End}
use Rattle.lalrpop_re.specs.Text.{Text, ◌▸◌, begins}
use Rattle.lalrpop_re.specs.CharacterSet.{Set, is_scalar, is_one_of}
use Rattle.lalrpop_re.specs.NamedSet.{named}

-- what an escape stands for: a character, a set before folding and whether it is complemented, or a look
pub data Escaped : Type 0 where
  character : ℕ → Escaped
  set : Set → Bool → Escaped
  assertion : Look → Escaped

-- ---- the table

-- what the character after the backslash says of the escape
pub data Sign : Type 0 where
  -- the whole escape
  this : Escaped → Sign
  -- this many hexadecimal digits follow, or one or more in braces
  code : ℕ → Sign
  -- the name of a set follows; whether the set is complemented
  property : Bool → Sign
  -- `\b`
  edge : Sign
  -- refused
  unknown : Sign

-- an ASCII character other than letters, digits, `<` and `>`
abbrev pub is_mark : ℕ → Bool
is_mark c = is_ascii c && not (is_ascii_alphanumeric c) && not (is_one_of "<>" c)

unfoldable pub sign : ℕ → Sign
sign c =
    if is_mark c then this (character c)
    else if is_one_of "a" c then this (character 7) else if is_one_of "f" c then this (character 12) else if is_one_of "t" c then this (character 9)
    else if is_one_of "n" c then this (character 10) else if is_one_of "r" c then this (character 13) else if is_one_of "v" c then this (character 11)
    else if is_one_of "d" c then this (set is_digit_char false) else if is_one_of "D" c then this (set is_digit_char true)
    else if is_one_of "s" c then this (set is_space_char false) else if is_one_of "S" c then this (set is_space_char true)
    else if is_one_of "w" c then this (set is_word_char false) else if is_one_of "W" c then this (set is_word_char true)
    else if is_one_of "A" c then this (assertion Start) else if is_one_of "z" c then this (assertion End) else if is_one_of "B" c then this (assertion WordUnicodeNegate)
    else if is_one_of "<" c then this (assertion WordStartUnicode) else if is_one_of ">" c then this (assertion WordEndUnicode)
    else if is_one_of "x" c then code 2 else if is_one_of "u" c then code 4 else if is_one_of "U" c then code 8
    else if is_one_of "p" c then property false else if is_one_of "P" c then property true
    else if is_one_of "b" c then edge
    else unknown

-- the four forms of braces after `\b`
abbrev pub begins_edge : Text → Bool
begins_edge t = begins "{start}" t || begins "{end}" t || begins "{start-half}" t || begins "{end-half}" t

-- ---- names of sets

-- ASCII letters, digits, `_`, `-` and spaces
abbrev pub is_set_name_char : ℕ → Bool
is_set_name_char c = is_ascii_alphanumeric c || is_one_of "_- " c

-- ---- the relation

unfoldable pub hex_value : List ℕ → ℕ → ℕ
hex_value [] n = n
hex_value (d ∷ ds) n = hex_value ds (n * 16 + digit_value d)

-- The hexadecimal digits write c, which is a scalar value.
pub record IsHex (digits : List ℕ) (c : ℕ) : Type 0 where
  pub digits_only : IsTrue (list_all is_ascii_hexdigit digits)
  pub value : c ≡ hex_value digits 0
  pub scalar : IsTrue (is_scalar c)

-- the name is one or more characters of a set's name, and the set has this name
pub record IsSetName (name : List ℕ) (s : Set) : Type 0 where
  pub not_empty : 0 < length name
  pub spelled : IsTrue (list_all is_set_name_char name)
  pub found : named name ≡ Some s

-- what follows the sign
pub data Signed : Sign → Text → Text → Escaped → Type 0 where
  -- `\n`, `\.`, `\d`, `\A` and the like
  at_once : {e : Escaped} {r : Text} → Signed (this e) r r e
  -- `\x41`: exactly that many digits, at least one
  digits_alone : {n v : ℕ} {r : Text} (d : ℕ) (ds : List ℕ) → suc (length ds) ≡ n → IsHex (d ∷ ds) v → Signed (code n) (d ∷ ds ▸ r) r (character v)
  -- `\x{41}`
  digits_braced : {n v : ℕ} {r : Text} (digits : List ℕ) → 0 < length digits → IsHex digits v → Signed (code n) (codes "{" ▸ digits ▸ codes "}" ▸ r) r (character v)
  -- `\pL`
  letter_alone : {negated : Bool} {c : ℕ} {s : Set} {r : Text} → IsSetName (c ∷ []) s → Signed (property negated) (c ∷ r) r (set s negated)
  -- `\p{Greek}`
  name_braced : {negated : Bool} {s : Set} {r : Text} (name : List ℕ) → IsSetName name s → Signed (property negated) (codes "{" ▸ name ▸ codes "}" ▸ r) r (set s negated)
  -- `\b`, and none of the four forms after it
  edge_alone : {r : Text} → IsFalse (begins_edge r) → Signed edge r r (assertion WordUnicode)
  edge_start : {r : Text} → Signed edge (codes "{start}" ▸ r) r (assertion WordStartUnicode)
  edge_end : {r : Text} → Signed edge (codes "{end}" ▸ r) r (assertion WordEndUnicode)
  edge_half_start : {r : Text} → Signed edge (codes "{start-half}" ▸ r) r (assertion WordStartHalfUnicode)
  edge_half_end : {r : Text} → Signed edge (codes "{end-half}" ▸ r) r (assertion WordEndHalfUnicode)

-- `Escape t r e`: after a backslash, the text from t up to r stands for e
pub data Escape : Text → Text → Escaped → Type 0 where
  escape_of : {c : ℕ} {t r : Text} {e : Escaped} → Signed (sign c) t r e → Escape (c ∷ t) r e
