-- cases: proofs/Cases/Document.antt
-- A text that is edited, with its pieces.
use Rattle.std.specs.Prelude.{◌≡◌, ◌≢◌, ◌⊎◌, ℕ, List, [], length, map, Result, Ok, Err}
use Rattle.std.specs.Str.{IsCharBoundary, IsUtf8}
use Rattle.bajofeki_rules.specs.Position.{position_of}
use Rattle.lalrpop_rules.specs.declared.piece.Piece.{Piece as TextPiece}
use Rattle.lalrpop_rules.specs.declared.piece.Piece.TheVariants.{Token, Skipped, Fault}
use Rattle.bajofeki.specs.Lexed.{ArePiecesIn, FirstReaches, IsChange, IsEarliest, IsEditError, IsRange, Lexed, replaced}
use Rattle.bajofeki.specs.declared.change.Change.{Change}
use Rattle.bajofeki.specs.declared.error.EditError.{EditError}
use Rattle.bajofeki.specs.declared.error.EditError.TheVariants.{NoBoundary, TooLarge, OutOfMemory}
use Rattle.bajofeki_c.specs.Rules.{IsWritten}
use Rattle.bajofeki_c.specs.declared.cut.Piece.{Piece}
use Rattle.bajofeki_c.specs.declared.document.Count.{Count}
use Rattle.bajofeki_c.specs.declared.document.Document.{Document}
use Rattle.bajofeki_c.specs.declared.document.DocumentError.{DocumentError}
use Rattle.bajofeki_c.specs.declared.document.DocumentError.TheVariants.{NoLexer, Refused}
use Rattle.bajofeki_c.specs.declared.document.Edit.{Edit}
use Rattle.bajofeki_c.specs.declared.held.BuildError.{BuildError}
use Rattle.bajofeki_c.specs.declared.held.BuiltLexer.{BuiltLexer}
use Rattle.bajofeki_c.specs.declared.held.Held.{Held}
use Rattle.bajofeki_c.specs.declared.position.Place.{Place}

-- ---- numbers

-- a piece: 0 of a token, 1 of one whose rule is skipped, 2 of a fault
abbrev pub told : TextPiece → Piece
told (Token token) = record { kind = 0; rule = token.index; start = token.start; length = length token.slice.now }
told (Skipped token) = record { kind = 1; rule = token.index; start = token.start; length = length token.slice.now }
told (Fault at slice) = record { kind = 2; rule = 0; start = at; length = length slice.now }

abbrev pub code_of_edit : EditError → ℕ
code_of_edit NoBoundary = 1
code_of_edit TooLarge = 6
code_of_edit OutOfMemory = 7

abbrev pub code_of_error : DocumentError → ℕ
code_of_error NoLexer = 9
code_of_error (Refused e) = code_of_edit e

-- ---- how it begins

-- an empty text by these rules; or an empty text can't be cut by them
abbrev pub IsBegunBy : Result BuiltLexer BuildError → Result Lexed DocumentError → Type 0
IsBegunBy (Ok l) (Ok t) = t ≡ record { rules = l.rules; text = [] }
IsBegunBy (Ok l) (Err (Refused e)) = IsEditError (record { rules = l.rules; text = [] }) 0 0 [] e
IsBegunBy (Ok l) (Err NoLexer) = ⊥
IsBegunBy (Err f) made = made ≡ Err NoLexer

abbrev pub IsDocumentBegun : Held → Document → Type 0
IsDocumentBegun h d = IsBegunBy h.made d.made

-- ---- an edit

abbrev pub no_edit : ℕ → Edit
no_edit code = record { code = code; first = 0; removed = 0; inserted = 0; start = 0; old_end = 0; new_end = 0 }

abbrev pub told_edit : Change → Edit
told_edit c = record { code = 0; first = c.first; removed = c.removed; inserted = c.inserted; start = c.start; old_end = c.old_end; new_end = c.new_end }

-- the range of the text was replaced, and this became of its pieces: they were cut anew no further than needed, at either end
pub record IsChanged (old : Lexed) (from to : ℕ) (bytes : List ℕ) (e : Edit) (new : Lexed) : Type 0 where
  pub change : Change
  pub is_told : e ≡ told_edit change
  pub utf8 : IsUtf8 bytes
  pub range : IsRange old.text from to
  pub text : new ≡ record old { text = replaced old.text from to bytes }
  pub pieces : IsChange old new change
  pub earliest : IsEarliest old new from to (length bytes) change
  pub first : FirstReaches old from change

-- nothing was, for a reason that holds
abbrev pub IsUnchanged : Lexed → ℕ → ℕ → List ℕ → Edit → Lexed → Type 0
IsUnchanged old from to bytes e new = (new ≡ old) × (((e ≡ no_edit 3) × (¬ IsUtf8 bytes))
    ⊎ ((error : EditError) × ((e ≡ no_edit (code_of_edit error)) × (IsUtf8 bytes × IsEditError old from to bytes error))))

abbrev pub IsTextEdited : Lexed → ℕ → ℕ → List ℕ → Edit → Lexed → Type 0
IsTextEdited old from to bytes e new = IsChanged old from to bytes e new ⊎ IsUnchanged old from to bytes e new

abbrev pub IsEditedBetween : Result Lexed DocumentError → ℕ → ℕ → List ℕ → Edit → Result Lexed DocumentError → Type 0
IsEditedBetween (Ok old) from to bytes e (Ok new) = IsTextEdited old from to bytes e new
IsEditedBetween (Ok old) from to bytes e (Err f) = ⊥
IsEditedBetween (Err f) from to bytes e new = (e ≡ no_edit (code_of_error f)) × (new ≡ Err f)

abbrev pub IsEdited : Document → ℕ → ℕ → List ℕ → Edit → Document → Type 0
IsEdited old from to bytes e new = IsEditedBetween old.made from to bytes e new.made

-- ---- the pieces

abbrev pub count_told : ℕ → ℕ → Count
count_told code count = record { code = code; count = count }

-- these are the pieces that hold a byte of the range
pub record ArePiecesAt (l : Lexed) (from to : ℕ) (before : List Piece) (c : Count) (after : List Piece) : Type 0 where
  pub pieces : List TextPiece
  pub are : ArePiecesIn l from to pieces
  pub code : c.code ≡ 0
  pub written : IsWritten (map told pieces) before after c.count

-- or nothing is written, since memory was refused or there is no text
abbrev pub ArePiecesBy : Result Lexed DocumentError → ℕ → ℕ → List Piece → Count → List Piece → Type 0
ArePiecesBy (Ok l) from to before c after = ArePiecesAt l from to before c after ⊎ ((c ≡ count_told 7 0) × (after ≡ before))
ArePiecesBy (Err e) from to before c after = (c ≡ count_told (code_of_error e) 0) × (after ≡ before)

abbrev pub ArePiecesTold : Document → ℕ → ℕ → List Piece → Count → List Piece → Type 0
ArePiecesTold d from to before c after = ArePiecesBy d.made from to before c after

-- ---- the text and its places

abbrev pub text_in : Result Lexed DocumentError → List ℕ
text_in (Ok l) = l.text
text_in (Err e) = []

abbrev pub text_of : Document → List ℕ
text_of d = text_in d.made

abbrev pub nowhere : Place
nowhere = record { at = 0; line = 0; column = 0 }

-- the offset has this line and this column
pub record HasPlace (text : List ℕ) (p : Place) : Type 0 where
  pub boundary : IsCharBoundary text p.at
  pub position : position_of text p.at ≡ record { line = p.line; column = p.column }

abbrev pub IsPlaceIn : Result Lexed DocumentError → ℕ → Place → Type 0
IsPlaceIn (Ok l) at p = (HasPlace l.text p × (p.at ≡ at)) ⊎ ((¬ IsCharBoundary l.text at) × (p ≡ nowhere))
IsPlaceIn (Err e) at p = p ≡ nowhere

-- the line and the column of an offset, if it is between characters
abbrev pub IsPlace : Document → ℕ → Place → Type 0
IsPlace d at p = IsPlaceIn d.made at p

abbrev pub IsOffsetIn : Result Lexed DocumentError → ℕ → ℕ → Place → Type 0
IsOffsetIn (Ok l) line column p = (HasPlace l.text p × ((p.line ≡ line) × (p.column ≡ column)))
    ⊎ (((at : ℕ) → IsCharBoundary l.text at → position_of l.text at ≢ record { line = line; column = column }) × (p ≡ nowhere))
IsOffsetIn (Err e) line column p = p ≡ nowhere

-- the offset of a line and a column, if the text has them
abbrev pub IsOffset : Document → ℕ → ℕ → Place → Type 0
IsOffset d line column p = IsOffsetIn d.made line column p
