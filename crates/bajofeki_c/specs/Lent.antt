-- cases: proofs/Cases/Lent.antt
-- What lies behind a program's pointers and sees a lexer as long as it lies there: a document, and a stream.
use Rattle.std.specs.Prelude.{ℕ, Bool, List, []}
use Rattle.std.specs.Borrow.{full_share}
use Rattle.std.specs.Ptr.{Ptr, lies_at, room_at}
use base.Fml.{Fml, Lft, Share, fex, fsep, flft}
use denote.Ref.{NamedLft}
use denote.RattleType.{RattleType}
use mir.Syntax.{erased}
use Rattle.bajofeki_c.specs.Document.{IsDocumentBegun, IsEdited}
use Rattle.bajofeki_c.specs.Stream.{GivesOn, IsFed, IsStreamBegun}
use Rattle.bajofeki_c.specs.Room.{View, room_align, room_size, said}
use Rattle.bajofeki_c.specs.contracts.document.Document as document
use Rattle.bajofeki_c.specs.contracts.stream.Stream as stream
use Rattle.bajofeki_c.specs.declared.cut.Piece.{Piece}
use Rattle.bajofeki_c.specs.declared.document.Count.{Count}
use Rattle.bajofeki_c.specs.declared.document.Document.{Document}
use Rattle.bajofeki_c.specs.declared.document.Edit.{Edit}
use Rattle.bajofeki_c.specs.declared.stream.Stream.{Stream}

-- a lifetime for which a lexer is lent
abbrev lent : Lft → NamedLft
lent κ = record { mir = erased; lft = κ }

-- ---- a document

-- one whose lexer is lent for this lifetime
abbrev pub document_row : Lft → RattleType
document_row κ = document.the_row (lent κ)

-- a document, the lifetime for which its lexer is lent, and a part of the right that says that this lifetime lasts
pub record HeldDocument : Type 0 where
  pub document : Document
  pub lifetime : Lft
  pub share : Share

-- it lies there, with all that it owns
abbrev pub document_lies_at : Ptr → Lft → Document → Fml
document_lies_at p κ d = lies_at (document_row κ) full_share p d

-- the same, and its lexer is seen
abbrev pub document_at : Ptr → HeldDocument → Fml
document_at p h = fsep (document_lies_at p h.lifetime h.document) (flft h.lifetime h.share)

-- room for one
abbrev pub room_for_document : Ptr → Fml
room_for_document p = room_at (document_row []) p

abbrev pub document_size : ℕ
document_size = room_size (document_row [])

abbrev pub document_align : ℕ
document_align = room_align (document_row [])

-- an empty text by the lexer that is seen lies there, or why there is none
abbrev pub document_begun_at : Ptr → View → Fml
document_begun_at p v = fex Document (λ d. fsep (document_lies_at p v.lifetime d) (said (IsDocumentBegun v.held d)))

-- the document lies there, edited
abbrev pub edited_at : Ptr → HeldDocument → ℕ → ℕ → List ℕ → Edit → Fml
edited_at p h from to bytes e =
    fsep (fex Document (λ d. fsep (document_lies_at p h.lifetime d) (said (IsEdited h.document from to bytes e d)))) (flft h.lifetime h.share)

-- only its room is left, and the right
abbrev pub document_ended_at : Ptr → HeldDocument → Fml
document_ended_at p h = fsep (room_for_document p) (flft h.lifetime h.share)

-- ---- a stream

abbrev pub stream_row : Lft → RattleType
stream_row κ = stream.the_row (lent κ)

-- a stream, and the same of its lexer
pub record HeldStream : Type 0 where
  pub stream : Stream
  pub lifetime : Lft
  pub share : Share

abbrev pub stream_lies_at : Ptr → Lft → Stream → Fml
stream_lies_at p κ s = lies_at (stream_row κ) full_share p s

abbrev pub stream_at : Ptr → HeldStream → Fml
stream_at p h = fsep (stream_lies_at p h.lifetime h.stream) (flft h.lifetime h.share)

abbrev pub room_for_stream : Ptr → Fml
room_for_stream p = room_at (stream_row []) p

abbrev pub stream_size : ℕ
stream_size = room_size (stream_row [])

abbrev pub stream_align : ℕ
stream_align = room_align (stream_row [])

-- a text of which nothing has come, by the lexer that is seen, lies there, or why there is none
abbrev pub stream_begun_at : Ptr → View → Fml
stream_begun_at p v = fex Stream (λ s. fsep (stream_lies_at p v.lifetime s) (said (IsStreamBegun v.held s)))

-- the bytes have come to it
abbrev pub fed_at : Ptr → HeldStream → List ℕ → Bool → ℕ → Fml
fed_at p h bytes is_last code =
    fsep (fex Stream (λ s. fsep (stream_lies_at p h.lifetime s) (said (IsFed h.stream bytes is_last code s)))) (flft h.lifetime h.share)

-- it has gone on after the pieces that were written
abbrev pub given_at : Ptr → HeldStream → List Piece → Count → List Piece → Fml
given_at p h before c after =
    fsep (fex Stream (λ s. fsep (stream_lies_at p h.lifetime s) (said (GivesOn h.stream before c after s)))) (flft h.lifetime h.share)

abbrev pub stream_ended_at : Ptr → HeldStream → Fml
stream_ended_at p h = fsep (room_for_stream p) (flft h.lifetime h.share)
