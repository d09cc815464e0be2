-- Cases of specs/TextAnswer.antt.
use Rattle.std.proofs.Common.{◌≡◌, ℕ, true, false, List, [], ◌∷◌, ◌++◌, Some, None, codes, refl}
use Rattle.std.specs.Borrow.{Bor}
use Rattle.std.specs.Fmt.{digits}
use Rattle.std.specs.Str.{chars, is_utf8}
use Rattle.std.specs.Str.Lossy.{utf8_error_len, utf8_lossy, utf8_valid_len}
use Rattle.bajofeki_rules.specs.Quoted.{told}
use Rattle.lalrpop_rules.specs.declared.piece.Piece.TheVariants.{Fault}
use Rattle.lexdfa_lib.specs.declared.command.Markup.TheVariants.{Html, Ansi}
use Rattle.pieces_lib.specs.TextAnswer.{page_of, fault_text, found_told, open_text, cut_status, cut_text}
use Rattle.pieces_lib.specs.declared.cut_end.CutEnd.TheVariants.{Whole, Stopped, Unread}
use Rattle.pieces_lib.specs.declared.cut_end.Found.TheVariants.{Character, Byte}

-- a character that no rule matches
fault_in_the_second_line : fault_text (codes "f") (record { line = 2; column = 1 }) (codes "b") ≡ codes "tokens: f:2:1: no rule matches \"b\"\n"
unfolding digits
fault_in_the_second_line = refl

-- ---- how cutting ended

cut_whole : (cut_status (Whole false None) ≡ 0) × (cut_text [] (codes "f") (Whole false None) ≡ [])
cut_whole = (refl, refl)

-- faults that have lines of their own aren't told again
cut_with_faults : (cut_status (Whole true None) ≡ 1) × (cut_text [] (codes "f") (Whole true None) ≡ [])
cut_with_faults = (refl, refl)

-- a mode that is open
open_comment : open_text (codes "COMMENT") (codes "f") (record { line = 2; column = 1 }) ≡ codes "tokens: f:2:1: the text ends in mode COMMENT, which was entered here\n"
unfolding digits
open_comment = refl

cut_in_a_comment : (cut_status (Whole false (Some (record { mode = 1; place = record { line = 2; column = 1 } }))) ≡ 1)
    × (cut_text (codes "INITIAL" ∷ codes "COMMENT" ∷ []) (codes "f") (Whole true (Some (record { mode = 1; place = record { line = 2; column = 1 } })))
    ≡ open_text (codes "COMMENT") (codes "f") (record { line = 2; column = 1 }))
cut_in_a_comment = (refl, refl)

cut_to_a_fault : (cut_status (Stopped (record { line = 2; column = 1 }) (Character 98)) ≡ 1)
    × (cut_text [] (codes "f") (Stopped (record { line = 2; column = 1 }) (Character 98)) ≡ fault_text (codes "f") (record { line = 2; column = 1 }) (told 98))
cut_to_a_fault = (refl, refl)

-- a byte that is of no character
cut_to_a_byte : cut_text [] (codes "f") (Stopped (record { line = 2; column = 1 }) (Byte 255)) ≡ codes "tokens: f:2:1: no rule matches \"\\xff\"\n"
unfolding digits
cut_to_a_byte = refl

-- one that is a character is shown as it
ascii_byte : found_told (Byte 63) ≡ told 63
ascii_byte = refl

-- a read that fails
cut_to_a_failure : (cut_status Unread ≡ 6) × (cut_text [] (codes "f") Unread ≡ codes "tokens: f: read failed\n")
cut_to_a_failure = (refl, refl)

-- ---- pages

-- a fault as HTML, and on red
fault_as_html : (names : List (List ℕ)) (slice : Bor (List ℕ)) → slice.now ≡ codes "<" → page_of Html names (Fault 0 slice ∷ []) ≡ codes "<mark>&lt;</mark>"
unfolding chars lib.Utf8.encode utf8_lossy utf8_valid_len is_utf8
fault_as_html names slice is = rw is refl

fault_on_red : (names : List (List ℕ)) (slice : Bor (List ℕ)) → slice.now ≡ codes "a"
    → page_of Ansi names (Fault 0 slice ∷ []) ≡ 27 ∷ (codes "[41ma" ++ (27 ∷ codes "[0m"))
unfolding chars lib.Utf8.encode utf8_lossy utf8_valid_len is_utf8
fault_on_red names slice is = rw is refl

-- what isn't UTF-8 is U+FFFD there
bytes_as_html : (names : List (List ℕ)) (slice : Bor (List ℕ)) → slice.now ≡ 63 ∷ 255 ∷ [] → page_of Html names (Fault 0 slice ∷ []) ≡ codes "<mark>?" ++ (239 ∷ 191 ∷ 189 ∷ codes "</mark>")
unfolding chars lib.Utf8.encode utf8_lossy utf8_valid_len utf8_error_len is_utf8
bytes_as_html names slice is = rw is refl
