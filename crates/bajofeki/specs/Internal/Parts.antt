-- cases: proofs/Cases/Parts.antt
-- Bytes, of which texts are parts: what a text tells of the piece at their front.
use Rattle.std.specs.Prelude.{◌≡◌, ℕ, ◌+◌, ◌-◌, ◌≤◌, Bool, true, false, List, [], ◌++◌, length, take, drop, Option, Some, None}
use Rattle.std.specs.Str.{IsUtf8, IsCharBoundary}
use Rattle.lalrpop_hir.specs.Tree.{Tree}
use Rattle.lalrpop_rules.specs.Found.{MatchesAt, NoMatchBefore}
use Rattle.bajofeki.specs.Begun.{NoCharacter, IsBegun, IsBad}
use Rattle.bajofeki.specs.Chunked.{IsOpen, IsOpenIn}
use Rattle.bajofeki.specs.Internal.Kept.{IsFront}
use Rattle.bajofeki.specs.declared.parts.Part.{Part}
use Rattle.bajofeki.specs.declared.parts.FrontPiece.{FrontPiece}
use Rattle.bajofeki.specs.declared.parts.Told.{Told}
use Rattle.bajofeki.specs.declared.parts.Told.TheVariants.{Whole, Nothing, Open}
use Rattle.bajofeki.specs.declared.parts.Turn.{Turn}
use Rattle.bajofeki.specs.declared.parts.Turn.TheVariants.{Given, Held, Void}

-- nothing matches in a text before this place, where a character begins, whatever comes after the text
pub record IsVoidTo (ts : List Tree) (text : List ℕ) (n : ℕ) : Type 0 where
  pub begins : IsCharBoundary text n
  pub nothing : (tail : List ℕ) → NoMatchBefore ts (text ++ tail) n

-- what a text tells of all bytes that begin with it, where no character follows it, or any may: their piece, which ends in the text; that
-- nothing matches at its places; or that what comes may change the piece, whether something matches at its front, and where nothing does
abbrev pub Tells : List Tree → List ℕ → List ℕ → Bool → Told → Type 0
Tells ts ps text is_last (Whole piece) =
    IsCharBoundary text piece.size
    × ((tail : List ℕ) → (is_last ≡ true → NoCharacter tail) → IsFront ts ps (text ++ tail) piece.rule (take piece.size text))
Tells ts ps text is_last Nothing = (is_last ≡ true) × ((tail : List ℕ) → NoCharacter tail → NoMatchBefore ts (text ++ tail) (length text))
Tells ts ps text is_last (Open is_match void) =
    (is_last ≡ false) × IsOpen ts text × (is_match ≡ true → MatchesAt ts text 0) × (is_match ≡ false → NoMatchBefore ts text 1) × IsVoidTo ts text void

-- a character may have begun after a text, or a byte follows that is of none
abbrev pub IsLeft : List ℕ → Bool → Type 0
IsLeft left is_bad = (is_bad ≡ false → IsBegun left) × (is_bad ≡ true → IsBad left)

-- the text of a part
abbrev pub text_in : List ℕ → Part → List ℕ
text_in bytes p = take (p.ends - p.from) (drop p.from bytes)

-- the part is a text in these bytes, and what follows it is so
pub record IsParted (bytes : List ℕ) (p : Part) : Type 0 where
  pub order : p.from ≤ p.ends
  pub within : p.ends ≤ length bytes
  pub utf8 : IsUtf8 (text_in bytes p)
  pub left : IsLeft (drop p.ends bytes) p.is_bad

-- and nothing matches before it, whatever comes
pub record IsPart (ts : List Tree) (bytes : List ℕ) (p : Part) : Type 0 where
  pub parted : IsParted bytes p
  pub nothing : (more : List ℕ) → NoMatchBefore ts (bytes ++ more) p.from

-- how many bytes of a piece belong to the fault that stands before it: all of a fault, none of a token
abbrev pub size_in_fault : Option ℕ → ℕ → ℕ
size_in_fault None size = size
size_in_fault (Some i) size = 0

-- whatever comes, if anything may, this is the piece at the front of the bytes. It ends in the part, where a character begins, or after it
pub record IsGiven (ts : List Tree) (ps bytes : List ℕ) (is_ended : Bool) (p : Part) (f : FrontPiece) : Type 0 where
  pub settled : (more : List ℕ) → (is_ended ≡ true → more ≡ []) → IsFront ts ps (bytes ++ more) f.rule (take f.size bytes)
  pub from : p.from ≤ f.size
  pub within : f.size ≤ length bytes
  pub boundary : f.size ≤ p.ends → IsCharBoundary (text_in bytes p) (f.size - p.from)

-- what a part tells: the piece; that it is held back; or that nothing matches in the part, whatever comes, if a byte of no character follows, or
-- else if nothing comes
abbrev pub TellsTurn : List Tree → List ℕ → List ℕ → Bool → Part → Turn → Type 0
TellsTurn ts ps bytes is_ended p (Given f) = IsGiven ts ps bytes is_ended p f
TellsTurn ts ps bytes is_ended p Held = (is_ended ≡ false) × IsOpenIn ts bytes
TellsTurn ts ps bytes is_ended p Void =
    (p.is_bad ≡ false → is_ended ≡ true) × ((more : List ℕ) → (p.is_bad ≡ false → more ≡ []) → NoMatchBefore ts (bytes ++ more) p.ends)

-- it leaves the part as it is, unless a piece is held back
abbrev pub KeepsPart : Turn → Type 0
KeepsPart (Given f) = Unit {0}
KeepsPart Held = ⊥
KeepsPart Void = Unit {0}
