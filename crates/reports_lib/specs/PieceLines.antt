-- cases: proofs/Cases/PieceLines.antt
-- The lines of the pieces of a text that rules cut.
use Rattle.std.specs.Prelude.{ℕ, ◌+◌, nat_lt, Bool, true, false, if◌then◌else◌, List, [], ◌∷◌, ◌++◌, length, map, Option, Some, None, option_map, unwrap_or, slice_get, chars, codes, decimal, encode_utf8, flat_map, string_bytes}
use Rattle.std.specs.Char.Escape.{encode_utf16, hex_digit_at}
use Rattle.std.specs.Fmt.{digits}
use Rattle.std.specs.Str.{is_utf8}
use Rattle.std.specs.Str.Lossy.{utf8_lossy}
use Rattle.std.specs.Bool.{then_some}
use Rattle.json.specs.Token as json
use Rattle.json.specs.Print.{print}
use Rattle.bajofeki_rules.specs.Position.{byte_place_of}
use Rattle.bajofeki_rules.specs.declared.position.Position.{Position}
use Rattle.lalrpop_rules.specs.Modes.{ModeRules, after}
use Rattle.bajofeki_rules.specs.Stack.{Stack, start as first_stack}
use Rattle.lalrpop_rules.specs.declared.piece.Piece.{Piece}
use Rattle.lalrpop_rules.specs.declared.piece.Piece.TheVariants.{Token, Skipped, Fault}
use Rattle.bajofeki_rules.specs.Quoted.{is_unseen, quoted, told}
use Rattle.lexdfa_lib.specs.declared.layout.Layout.{Layout}
use Rattle.lexdfa_lib.specs.declared.layout.LineForm.{LineForm}
use Rattle.lexdfa_lib.specs.declared.layout.LineForm.TheVariants.{Plain, Json}

-- ---- a plain line

-- `FILE:`, if the file is named
abbrev pub file_text : Option (List ℕ) → List ℕ
file_text None = []
file_text (Some file) = file ++ codes ":"

-- a byte of a slice that isn't UTF-8: the character, if it is ASCII, else the number in hexadecimal
abbrev pub byte_told : ℕ → List ℕ
byte_told b = if nat_lt b 128 then told b else (codes "\\x" ++ digits 16 false b)

-- the slice in quotes; byte by byte, if it isn't UTF-8
abbrev pub slice_told : List ℕ → List ℕ
slice_told slice = if is_utf8 slice then quoted slice else (codes "\"" ++ (flat_map byte_told slice ++ codes "\""))

-- `LINE:COLUMN NAME "SLICE"`; without a name it is a fault, which has `!` in its place
abbrev pub plain_line : Option (List ℕ) → Position → Option (List ℕ) → List ℕ → List ℕ
plain_line file p name slice =
    file_text file ++ (decimal p.line ++ (codes ":" ++ (decimal p.column ++ (codes " " ++ (unwrap_or name (codes "!") ++ (codes " " ++ (slice_told slice ++ codes "\n")))))))

-- ---- a JSON line

-- members of an object: a name, and a number or a string
abbrev pub number_member : List ℕ → ℕ → List json.Token
number_member name n = json.key name ∷ json.number (decimal n) ∷ []

abbrev pub string_member : List ℕ → List ℕ → List json.Token
string_member name text = json.key name ∷ json.string text ∷ []

-- the file, if it is named
abbrev pub file_member : Option (List ℕ) → List json.Token
file_member None = []
file_member (Some file) = string_member (codes "file") file

-- the name of the rule, or `null` for a fault
abbrev pub rule_member : Option (List ℕ) → List json.Token
rule_member None = json.key (codes "rule") ∷ json.null ∷ []
rule_member (Some name) = string_member (codes "rule") name

-- the mode, if it is named
abbrev pub mode_member : Option (List ℕ) → List json.Token
mode_member None = []
mode_member (Some mode) = string_member (codes "mode") mode

-- what the object tells of
abbrev pub kind_member : List ℕ → List json.Token
kind_member kind = string_member (codes "kind") kind

-- the escape of a unit of UTF-16: four hexadecimal digits
abbrev pub unit_told : ℕ → List ℕ
unit_told u = codes "\\u" ++ (hex_digit_at 4096 u ∷ hex_digit_at 256 u ∷ hex_digit_at 16 u ∷ hex_digit_at 1 u ∷ [])

-- a character that isn't seen is written as the escapes of its units, another as it is
abbrev pub json_told : ℕ → List ℕ
json_told c = if is_unseen c then flat_map unit_told (encode_utf16 c) else encode_utf8 c

-- the characters of what is printed; U+FFFD would stand for what isn't UTF-8, but JSON always is
abbrev pub escaped : List ℕ → List ℕ
escaped printed = flat_map json_told (chars (utf8_lossy printed))

-- the line of an object with these members
abbrev pub object_line : List json.Token → List ℕ
object_line members = escaped (print (json.begin_object ∷ (members ++ json.end_object ∷ []))) ++ codes "\n"

-- the object: where the piece begins, as a line, a column and an offset in bytes, where it ends, its rule, its mode and its slice, with U+FFFD
-- for what isn't UTF-8
abbrev pub object_of : Option (List ℕ) → Position → ℕ → Option (List ℕ) → Option (List ℕ) → List ℕ → List json.Token
object_of file p start name mode slice =
    json.begin_object ∷ (file_member file
    ++ (number_member (codes "line") p.line ++ (number_member (codes "column") p.column
    ++ (number_member (codes "start") start ++ (number_member (codes "end") (start + length slice)
    ++ (rule_member name ++ (mode_member mode ++ (string_member (codes "text") (utf8_lossy slice) ++ json.end_object ∷ []))))))))

abbrev pub json_line : Option (List ℕ) → Position → ℕ → Option (List ℕ) → Option (List ℕ) → List ℕ → List ℕ
json_line file p start name mode slice = escaped (print (object_of file p start name mode slice)) ++ codes "\n"

-- ---- the line of a piece

-- only lines of JSON name the mode
abbrev pub line_in : LineForm → Option (List ℕ) → Position → ℕ → Option (List ℕ) → Option (List ℕ) → List ℕ → List ℕ
line_in Plain file p start name mode slice = plain_line file p name slice
line_in Json file p start name mode slice = json_line file p start name mode slice

-- the line of a piece that begins here in the text
abbrev pub line_at : LineForm → Option (List ℕ) → List ℕ → ℕ → Option (List ℕ) → Option (List ℕ) → List ℕ → List ℕ
line_at form file text start name mode slice = line_in form file (byte_place_of text start) start name mode slice

-- a fault has a line only if cutting goes on after it
abbrev pub fault_line : Bool → LineForm → Option (List ℕ) → List ℕ → ℕ → Option (List ℕ) → List ℕ → List ℕ
fault_line true form file text start mode slice = line_at form file text start None mode slice
fault_line false form file text start mode slice = []

-- the name of a rule or of a mode
abbrev pub name_at : List (List ℕ) → ℕ → List ℕ
name_at names i = unwrap_or (slice_get names i) []

-- a token has a line, a skipped piece has none
abbrev pub piece_line : LineForm → Bool → Option (List ℕ) → List (List ℕ) → Option (List ℕ) → List ℕ → Piece → List ℕ
piece_line form recovers file names mode text (Token token) = line_at form file text token.start (Some (name_at names token.index)) mode token.slice.now
piece_line form recovers file names mode text (Skipped token) = []
piece_line form recovers file names mode text (Fault start slice) = fault_line recovers form file text start mode slice.now

-- the mode that a line names: none, unless there are several
abbrev pub mode_named : List (List ℕ) → ℕ → Option (List ℕ)
mode_named modes m = then_some (nat_lt 1 (length modes)) (name_at modes m)

-- ---- the lines of a text

-- the lines of pieces, from this stack of modes on: each is read in the mode on top
abbrev pub piece_lines : LineForm → Bool → Option (List ℕ) → List (List ℕ) → ModeRules → List ℕ → Stack → List Piece → List ℕ
piece_lines form recovers file modes rules text s [] = []
piece_lines form recovers file modes rules text s (x ∷ xs) =
    piece_line form recovers file rules.names (mode_named modes s.mode) text x ++ piece_lines form recovers file modes rules text (after rules.actions x s) xs

abbrev pub layout_lines : Layout → ModeRules → List ℕ → List Piece → List ℕ
layout_lines layout rules text xs =
    piece_lines layout.form layout.recovers (option_map (λ f. f.now) layout.file) (map string_bytes layout.modes.now) rules text first_stack xs
