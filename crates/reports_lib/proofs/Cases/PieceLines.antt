-- Cases of specs/PieceLines.antt.
use Rattle.std.proofs.Common.{◌≡◌, ℕ, Bool, List, [], ◌∷◌, ◌++◌, Option, Some, None, codes, refl, false}
use Rattle.std.specs.Fmt.{digits}
use Rattle.std.specs.Str.{chars, is_utf8}
use Rattle.std.specs.Str.Lossy.{utf8_error_len, utf8_lossy, utf8_valid_len}
use Rattle.ucd_category.proofs.Computing.{ucd_category}
use Rattle.ucd_derived.proofs.Computing.{ucd_derived}
use Rattle.json.specs.Print.{print_from, escape_byte}
use Rattle.bajofeki_rules.specs.declared.position.Position.{Position}
use Rattle.lalrpop_rules.specs.Modes.{ModeRules}
use Rattle.bajofeki_rules.specs.Stack.{Stack}
use Rattle.reports_lib.specs.PieceLines.{byte_told, slice_told, plain_line, json_told, json_line, name_at, fault_line, mode_named, piece_lines}
use Rattle.reports_lib.proofs.JsonLaws.{line_as_is}
use Rattle.lexdfa_lib.specs.declared.layout.LineForm.{LineForm}

abbrev second : Position
second = record { line = 1; column = 2 }

-- a byte 0xFF, of which no character has any, and `?`
abbrev bad : List ℕ
bad = 255 ∷ 63 ∷ []

-- ---- slices

-- a byte of ASCII is told as the character, and another in hexadecimal
bytes_told : (byte_told 63 ≡ codes "?") × (byte_told 10 ≡ codes "\\n") × (byte_told 128 ≡ codes "\\x80") × (byte_told 255 ≡ codes "\\xff")
unfolding digits lib.Utf8.encode ucd_category ucd_derived
bytes_told = (refl, refl, refl, refl)

-- a slice that is UTF-8 is told as its characters, even where they aren't ASCII
slice_of_text : slice_told (195 ∷ 164 ∷ []) ≡ 34 ∷ 195 ∷ 164 ∷ 34 ∷ []
unfolding chars is_utf8 lib.Utf8.encode ucd_category ucd_derived
slice_of_text = refl

slice_of_bytes : slice_told bad ≡ codes "\"\\xff?\""
unfolding digits chars is_utf8 lib.Utf8.encode ucd_category ucd_derived
slice_of_bytes = refl

-- ---- plain lines

line_of_a_name : plain_line None second (Some (codes "N")) (codes "a") ≡ codes "1:2 N \"a\"\n"
unfolding digits chars is_utf8 lib.Utf8.encode ucd_category ucd_derived
line_of_a_name = refl

line_with_a_file : plain_line (Some (codes "f")) second (Some (codes "N")) (codes "a") ≡ codes "f:1:2 N \"a\"\n"
unfolding digits chars is_utf8 lib.Utf8.encode ucd_category ucd_derived
line_with_a_file = refl

line_of_a_fault : plain_line None second None (codes "a") ≡ codes "1:2 ! \"a\"\n"
unfolding digits chars is_utf8 lib.Utf8.encode ucd_category ucd_derived
line_of_a_fault = refl

line_of_bytes : plain_line None second None bad ≡ codes "1:2 ! \"\\xff?\"\n"
unfolding digits chars is_utf8 lib.Utf8.encode ucd_category ucd_derived
line_of_bytes = refl

-- ---- lines of JSON

object_of_a_name : json_line None second 1 (Some (codes "N")) None (codes "\"") ≡ codes "{\"line\":1,\"column\":2,\"start\":1,\"end\":2,\"rule\":\"N\",\"text\":\"\\\"\"}\n"
unfolding digits print_from escape_byte chars is_utf8 lib.Utf8.encode utf8_lossy utf8_valid_len
object_of_a_name = line_as_is (codes "{\"line\":1,\"column\":2,\"start\":1,\"end\":2,\"rule\":\"N\",\"text\":\"\\\"\"}") refl

object_of_a_fault : json_line (Some (codes "f")) second 1 None None (codes "a")
    ≡ codes "{\"file\":\"f\",\"line\":1,\"column\":2,\"start\":1,\"end\":2,\"rule\":null,\"text\":\"a\"}\n"
unfolding digits print_from escape_byte chars is_utf8 lib.Utf8.encode utf8_lossy utf8_valid_len
object_of_a_fault = line_as_is (codes "{\"file\":\"f\",\"line\":1,\"column\":2,\"start\":1,\"end\":2,\"rule\":null,\"text\":\"a\"}") refl

-- the mode stands after the rule
object_with_a_mode : json_line None second 1 (Some (codes "N")) (Some (codes "M")) (codes "a")
    ≡ codes "{\"line\":1,\"column\":2,\"start\":1,\"end\":2,\"rule\":\"N\",\"mode\":\"M\",\"text\":\"a\"}\n"
unfolding digits print_from escape_byte chars is_utf8 lib.Utf8.encode utf8_lossy utf8_valid_len
object_with_a_mode = line_as_is (codes "{\"line\":1,\"column\":2,\"start\":1,\"end\":2,\"rule\":\"N\",\"mode\":\"M\",\"text\":\"a\"}") refl

-- U+FFFD stands for the byte that is of no character, and the end counts the bytes of the slice
object_of_bytes : json_line None second 1 None None bad ≡ codes "{\"line\":1,\"column\":2,\"start\":1,\"end\":3,\"rule\":null,\"text\":\"" ++ (239 ∷ 191 ∷ 189 ∷ codes "?\"}\n")
unfolding digits print_from escape_byte chars is_utf8 lib.Utf8.encode utf8_lossy utf8_valid_len utf8_error_len ucd_category ucd_derived
object_of_bytes = refl

-- the bidirectional override U+202E, the tag U+E0041 of two units, DEL and the soft hyphen aren't seen; `é` is, and it stands as it is
characters_of_json : (json_told 0x202E ≡ codes "\\u202e") × (json_told 0xE0041 ≡ codes "\\udb40\\udc41") × (json_told 127 ≡ codes "\\u007f")
    × (json_told 0xAD ≡ codes "\\u00ad") × (json_told 0xE9 ≡ 195 ∷ 169 ∷ [])
unfolding lib.Utf8.encode ucd_category ucd_derived
characters_of_json = (refl, refl, refl, refl, refl)

-- ---- pieces

-- one mode isn't named, and the second of two is
modes_named : (mode_named (codes "A" ∷ []) 0 ≡ None) × (mode_named (codes "A" ∷ codes "B" ∷ []) 1 ≡ Some (codes "B"))
modes_named = (refl, refl)

names : (name_at (codes "A" ∷ codes "B" ∷ []) 1 ≡ codes "B") × (name_at (codes "A" ∷ []) 1 ≡ [])
names = (refl, refl)

-- without recovering, a fault has no line
fault_without_a_line : (form : LineForm) (file mode : Option (List ℕ)) (text slice : List ℕ) (begin : ℕ) → fault_line false form file text begin mode slice ≡ []
fault_without_a_line form file mode text slice begin = refl

no_line_of_nothing : (form : LineForm) (recovers : Bool) (file : Option (List ℕ)) (modes : List (List ℕ)) (r : ModeRules) (text : List ℕ) (s : Stack)
    → piece_lines form recovers file modes r text s [] ≡ []
no_line_of_nothing form recovers file modes r text s = refl
