-- cases: proofs/Cases/TextAnswer.antt
-- The answer for what is read of a text.
use Rattle.std.specs.Prelude.{◌≡◌, ℕ, Bool, true, false, List, [], ◌++◌, Some, None, codes, decimal, flat_map}
use Rattle.std.specs.Bool.{then_some}
use Rattle.std.specs.Borrow.{Bor}
use Rattle.bajofeki.specs.Chunked.{Chunked}
use Rattle.std.specs.Str.Lossy.{utf8_lossy}
use Rattle.bajofeki_rules.specs.Quoted.{told}
use Rattle.bajofeki_rules.specs.declared.position.Position.{Position}
use Rattle.bajofeki.specs.Markup.{marked}
use Rattle.bajofeki.specs.Terminal.{painted}
use Rattle.lalrpop_rules.specs.Modes.{ModeRules}
use Rattle.bajofeki_rules.specs.Stack.{start}
use Rattle.lalrpop_rule_file.specs.RuleFile.{without_mark}
use Rattle.lalrpop_rules.specs.declared.piece.Piece.{Piece}
use Rattle.lalrpop_rules.specs.declared.piece.Piece.TheVariants.{Token, Skipped, Fault}
use Rattle.lexdfa_lib.specs.Streams.{Reading}
use Rattle.reports_lib.specs.Answer.{Answer, about}
use Rattle.reports_lib.specs.PieceLines.{byte_told, name_at, piece_lines}
use Rattle.lexdfa_lib.specs.declared.layout.LineForm.{LineForm}
use Rattle.pieces_lib.specs.CutEnds.{AreGiven, IsCutTo}
use Rattle.lexdfa_lib.specs.declared.command.Markup.{Markup}
use Rattle.lexdfa_lib.specs.declared.command.Markup.TheVariants.{Html, Ansi}
use Rattle.pieces_lib.specs.declared.cut_end.CutEnd.{CutEnd}
use Rattle.pieces_lib.specs.declared.cut_end.CutEnd.TheVariants.{Whole, Stopped, Unread}
use Rattle.pieces_lib.specs.declared.cut_end.Found.{Found}
use Rattle.pieces_lib.specs.declared.cut_end.Found.TheVariants.{Character, Byte}

-- a place in a file
abbrev pub place_in : List ℕ → Position → List ℕ
place_in file p = file ++ (codes ":" ++ (decimal p.line ++ (codes ":" ++ (decimal p.column ++ codes ": "))))

-- the message for a place where no rule matches; it shows the character there
abbrev pub fault_text : List ℕ → Position → List ℕ → List ℕ
fault_text file place shown =
    codes "tokens: " ++ (place_in file place ++ (codes "no rule matches \"" ++ (shown ++ codes "\"\n")))

-- the message for the end of a text in a mode that was put on top of another one; it shows where
abbrev pub open_text : List ℕ → List ℕ → Position → List ℕ
open_text mode file place =
    codes "tokens: " ++ (place_in file place ++ (codes "the text ends in mode " ++ (mode ++ codes ", which was entered here\n")))

-- ---- texts

-- 0 if the text was cut to its end, has no fault, and ends in a mode that has none below it; 6 if it couldn't be read
abbrev pub cut_status : CutEnd → ℕ
cut_status (Whole false None) = 0
cut_status (Whole has_fault inside) = 1
cut_status (Stopped place found) = 1
cut_status Unread = 6

-- what was found where no rule matches
abbrev pub found_told : Found → List ℕ
found_told (Character c) = told c
found_told (Byte b) = byte_told b

-- what is said of the end: in which mode it is; where cutting stopped; or that a read failed
abbrev pub cut_text : List (List ℕ) → List ℕ → CutEnd → List ℕ
cut_text modes file (Whole has_fault None) = []
cut_text modes file (Whole has_fault (Some o)) = open_text (name_at modes o.mode) file o.place
cut_text modes file (Stopped place found) = fault_text file place (found_told found)
cut_text modes file Unread = about file (codes "read failed")

-- what is written for the pieces of a text that are cut of what is read, and how that ends
abbrev pub CutAnswer : ModeRules → List (List ℕ) → Bool → (List ℕ → List Piece → List ℕ) → List ℕ → Reading → Answer → Type 0
CutAnswer rules modes recovers out file reading answer =
    (xs : List Piece) × ((ended : CutEnd) × (IsCutTo rules recovers reading (without_mark reading.bytes) xs ended
    × (answer ≡ record { status = cut_status ended; out = out (without_mark reading.bytes) xs; err = cut_text modes file ended })))

-- the same for pieces that were given before a run failed; nothing was said yet
abbrev pub CutPart : ModeRules → Bool → (List ℕ → List Piece → List ℕ) → Reading → Answer → Type 0
CutPart rules recovers out reading answer =
    (text : List ℕ) × ((left : List ℕ) × ((xs : List Piece) × ((c : Chunked) × ((without_mark reading.bytes ≡ text ++ left)
    × (AreGiven rules recovers reading text xs c × (answer ≡ record { status = 0; out = out text xs; err = [] }))))))

-- a line for each piece that has one, with the file's name if there are several
abbrev pub lines_of : ModeRules → List (List ℕ) → LineForm → Bool → Bool → List ℕ → List ℕ → List Piece → List ℕ
lines_of rules modes form recovers several file text xs = piece_lines form recovers (then_some several file) modes rules text start xs

abbrev pub PiecesAnswer : ModeRules → List (List ℕ) → LineForm → Bool → Bool → List ℕ → Reading → Answer → Type 0
PiecesAnswer rules modes form recovers several file = CutAnswer rules modes recovers (lines_of rules modes form recovers several file) file

abbrev pub PiecesPart : ModeRules → List (List ℕ) → LineForm → Bool → Bool → List ℕ → Reading → Answer → Type 0
PiecesPart rules modes form recovers several file = CutPart rules recovers (lines_of rules modes form recovers several file)

abbrev pub lossy : Bor (List ℕ) → Bor (List ℕ)
lossy slice = record slice { now = utf8_lossy slice.now }

-- the piece with U+FFFD for what isn't UTF-8, which only a fault has
abbrev pub legible : Piece → Piece
legible (Token token) = Token (record token { slice = lossy token.slice })
legible (Skipped token) = Skipped (record token { slice = lossy token.slice })
legible (Fault start slice) = Fault start (lossy slice)

-- a piece as HTML, or in colours for a terminal
abbrev pub piece_in : Markup → List (List ℕ) → Piece → List ℕ
piece_in Html names x = marked names (legible x)
piece_in Ansi names x = painted names (legible x)

-- the pieces, one after another
abbrev pub page_of : Markup → List (List ℕ) → List Piece → List ℕ
page_of markup names xs = flat_map (piece_in markup names) xs

-- as markup
abbrev pub PageAnswer : ModeRules → List (List ℕ) → Markup → List ℕ → Reading → Answer → Type 0
PageAnswer rules modes markup file = CutAnswer rules modes true (λ text xs. page_of markup rules.names xs) file

abbrev pub PagePart : ModeRules → List (List ℕ) → Markup → List ℕ → Reading → Answer → Type 0
PagePart rules modes markup file = CutPart rules true (λ text xs. page_of markup rules.names xs)
