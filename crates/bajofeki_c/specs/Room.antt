-- cases: proofs/Cases/Room.antt
-- What lies behind a program's pointers.
use Rattle.std.specs.Prelude.{◌≡◌, ℕ, List}
use Rattle.std.specs.Borrow.{full_share}
use Rattle.std.specs.Ptr.{Ptr, lies_at, room_at}
use base.Fml.{Fml, Lft, Share, fex, fsep, flft, ftrue}
use denote.Memory.{lone}
use denote.RattleType.{RattleType}
use denote.Struct.Lending.{lent_at}
use prog.Memory.{align, size}
use Rattle.bajofeki_c.specs.Built.{IsMade, IsFreed}
use Rattle.bajofeki_c.specs.Cutting.{IsBegun, begin_code}
use Rattle.bajofeki_c.specs.Cut.{GoesOn, IsCutOn}
use Rattle.bajofeki_c.specs.contracts.held.Held as held
use Rattle.bajofeki_c.specs.contracts.cutting.Cutting as cutting
use Rattle.bajofeki_c.specs.declared.cut.Cut.{Cut}
use Rattle.bajofeki_c.specs.declared.cut.Piece.{Piece}
use Rattle.bajofeki_c.specs.declared.cutting.Cutting.{Cutting}
use Rattle.bajofeki_c.specs.declared.held.Held.{Held}

-- room for a value of the type has this many bytes, and lies at a multiple of this
abbrev pub room_size : RattleType → ℕ
room_size T = size (lone T.mir)

abbrev pub room_align : RattleType → ℕ
room_align T = align (lone T.mir)

-- P holds, and no memory is said of
abbrev pub said : Type 0 → Fml
said P = fex P (λ _. ftrue)

-- ---- a lexer

-- it lies there, with all that it owns
abbrev pub held_at : Ptr → Held → Fml
held_at p h = lies_at held.the_row full_share p h

-- room for one
abbrev pub room_for_held : Ptr → Fml
room_for_held p = room_at held.the_row p

abbrev pub held_size : ℕ
held_size = room_size held.the_row

abbrev pub held_align : ℕ
held_align = room_align held.the_row

-- what is made of the bytes lies there
abbrev pub made_at : Ptr → List ℕ → Fml
made_at p bytes = fex Held (λ h. fsep (held_at p h) (said (IsMade bytes h)))

-- what says that the memory was given back lies there
abbrev pub freed_at : Ptr → Fml
freed_at p = fex Held (λ h. fsep (held_at p h) (said (IsFreed h)))

-- a lexer that is lent for a lifetime, and a part of the right that says that this lifetime lasts
pub record View : Type 0 where
  pub held : Held
  pub lifetime : Lft
  pub share : Share

-- a `&` to the lexer for this lifetime, and this part. So several calls may have a view of one lexer at once
abbrev pub seen_at : Ptr → View → Fml
seen_at p v = fsep (lent_at held.the_row p v.held v.lifetime) (flft v.lifetime v.share)

-- ---- a cut

-- it lies there, with all that it owns
abbrev pub cutting_at : Ptr → Cutting → Fml
cutting_at p c = lies_at cutting.the_row full_share p c

-- room for one
abbrev pub room_for_cutting : Ptr → Fml
room_for_cutting p = room_at cutting.the_row p

abbrev pub cutting_size : ℕ
cutting_size = room_size cutting.the_row

abbrev pub cutting_align : ℕ
cutting_align = room_align cutting.the_row

-- the cut of a text of this size by this lexer, before its first piece, lies there, or why there is none, and this is its code
abbrev pub begun_at : Ptr → Held → ℕ → ℕ → Fml
begun_at p h size code = fex Cutting (λ c. fsep (cutting_at p c) (said (IsBegun h size c × (code ≡ begin_code c))))

-- a lexer that is seen, and a cut
pub record Cutter : Type 0 where
  pub view : View
  pub cutting : Cutting

-- the cut lies there, gone on after the pieces that were written
abbrev pub cut_at : Ptr → Cutter → List ℕ → List Piece → Cut → List Piece → Fml
cut_at p c text before cut after =
    fex Cutting (λ d. fsep (cutting_at p d) (said (IsCutOn c.view.held text c.cutting before cut after d × GoesOn c.view.held text d)))
