-- Lines and columns, block by block.
use Rattle.std.specs.Prelude.{◌≡◌, ℕ, ◌+◌, ◌≤◌, List, [], ◌∷◌, length, take, drop, slice_get, Some}
use Rattle.std.specs.Str.{IsCharBoundary, IsUtf8}
use Rattle.bajofeki_rules.specs.Position.{IsBefore, position_of}
use Rattle.bajofeki_rules.specs.declared.position.Position.{Position}
use Rattle.bajofeki.specs.Internal.Blocks.{size_in}
use Rattle.bajofeki.specs.declared.block.Block.{Block}
use Rattle.bajofeki.specs.declared.lines.Mark.{Mark}

-- the block is at the front of the text, has whole characters of it, and says where it ends
pub record IsCounted (text : List ℕ) (b : Block) : Type 0 where
  pub within : b.size ≤ length text
  pub utf8 : IsUtf8 (take b.size text)
  pub end : b.end ≡ position_of text b.size

-- one block after another
abbrev pub AreCounted : List ℕ → List Block → Type 0
AreCounted text [] = Unit {0}
AreCounted text (b ∷ bs) = IsCounted text b × AreCounted (drop b.size text) bs

-- the texts have the same bytes in front of the one place, and after the other, which lies at `old` in the one text and at `new` in the other
pub record AreSameAround (before text : List ℕ) (start old new : ℕ) : Type 0 where
  pub front : take start before ≡ take start text
  pub behind : drop old before ≡ drop new text

-- a place of the text, in bytes and as line and column
pub record IsMark (text : List ℕ) (m : Mark) : Type 0 where
  pub boundary : IsCharBoundary text m.at
  pub place : m.place ≡ position_of text m.at

-- the block begins at this byte, and doesn't end before the place
pub record ReachesPlace (text : List ℕ) (bs : List Block) (b : Block) (begins : ℕ) (p : Position) : Type 0 where
  pub number : ℕ
  pub there : slice_get bs number ≡ Some b
  pub begins_is : begins ≡ size_in (take number bs)
  pub reaches : ¬ IsBefore (position_of text (begins + b.size)) p
