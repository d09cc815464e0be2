-- Cases of specs/Document.antt.
use Rattle.std.proofs.Common.{◌≡◌, ◌≢◌, ℕ, List, [], ◌∷◌, length, refl, ap, arith}
use Rattle.std.specs.Prelude.{Err}
use Rattle.std.specs.Borrow.{Bor}
use Rattle.lalrpop_rules.specs.declared.piece.Piece.TheVariants.{Token, Skipped, Fault}
use Rattle.bajofeki_c.specs.Document.{ArePiecesTold, IsDocumentBegun, IsEdited, IsOffset, IsPlace, count_told, no_edit, nowhere, text_of, told}
use Rattle.bajofeki_c.specs.declared.cut.Piece.{Piece}
use Rattle.bajofeki_c.specs.declared.document.Document.{Document}
use Rattle.bajofeki_c.specs.declared.document.DocumentError.TheVariants.{NoLexer}
use Rattle.bajofeki_c.specs.declared.document.Edit.{Edit}
use Rattle.bajofeki_c.specs.declared.held.BuildError.TheVariants.{Freed}

module _ (slice : Bor (List ℕ)) where
  abbrev piece : ℕ → ℕ → Piece
  piece kind rule = record { kind = kind; rule = rule; start = 4; length = length slice.now }

  a_token : told (Token (record { index = 5; slice = slice; start = 4 })) ≡ piece 0 5
  a_token = refl

  a_skipped_token : told (Skipped (record { index = 5; slice = slice; start = 4 })) ≡ piece 1 5
  a_skipped_token = refl

  a_fault : told (Fault 4 slice) ≡ piece 2 0
  a_fault = refl

  no_fault_is_a_token : told (Fault 4 slice) ≢ piece 0 0
  no_fault_is_a_token e = let n : 2 ≡ 0 = ap (λ (p : Piece). p.kind) e in omega (arith, n)

-- without a lexer
abbrev none : Document
none = record { made = Err NoLexer }

no_document : IsDocumentBegun (record { made = Err Freed }) none
no_document = refl

no_edit_of_none : IsEdited none 0 0 [] (no_edit 9) none
no_edit_of_none = (refl, refl)

none_is_not_edited : ¬ IsEdited none 0 0 [] (no_edit 0) none
none_is_not_edited edited = let n : 0 ≡ 9 = ap (λ (e : Edit). e.code) edited.0 in omega (arith, n)

no_pieces : ArePiecesTold none 0 1 [] (count_told 9 0) []
no_pieces = (refl, refl)

no_place : IsPlace none 0 nowhere
no_place = refl

no_offset : IsOffset none 1 1 nowhere
no_offset = refl

no_text : text_of none ≡ []
no_text = refl
