-- The pieces of a text in blocks.
use Rattle.std.specs.Prelude.{◌≡◌, ℕ, zero, suc, ◌+◌, ◌<◌, ◌≤◌, List, [], ◌∷◌, ◌++◌, length, take, Some, slice_get}
use Rattle.bajofeki_rules.specs.Stack.{Stack, start}
use Rattle.lalrpop_rules.specs.Modes.{ModeRules}
use Rattle.bajofeki.specs.Internal.Kept.{KeptUpTo, AreWithin, after_kept}
use Rattle.bajofeki.specs.declared.kept.Kept.{Kept}
use Rattle.bajofeki.specs.declared.block.Block.{Block}

-- the block's pieces are those from this place and stack up to the end of the block and this stack, and it says the least number of bytes that
-- none of them depends on more than
pub record IsBlock (r : ModeRules) (text : List ℕ) (at : ℕ) (s : Stack) (b : Block) (t : Stack) : Type 0 where
  pub stack : b.stack ≡ s
  pub pieces : KeptUpTo r text at s b.pieces.items (at + b.size) t
  pub within : AreWithin (at + b.reach) at b.pieces.items
  pub least : (n : ℕ) → AreWithin (at + n) at b.pieces.items → b.reach ≤ n

-- one block after another
abbrev pub AreBlocks : ModeRules → List ℕ → ℕ → Stack → List Block → ℕ → Stack → Type 0
AreBlocks r text at s [] to t = (at ≡ to) × (s ≡ t)
AreBlocks r text at s (b ∷ bs) to t = (u : Stack) × (IsBlock r text at s b u × AreBlocks r text (at + b.size) u bs to t)

-- those of the whole text
abbrev pub AreBlocksOf : ModeRules → List ℕ → List Block → Type 0
AreBlocksOf r text bs = (end : Stack) × AreBlocks r text 0 start bs (length text) end

-- the pieces of the blocks, one after another
abbrev pub pieces_in : List Block → List Kept
pieces_in [] = []
pieces_in (b ∷ bs) = b.pieces.items ++ pieces_in bs

-- ---- what is told of pieces and blocks without the text

-- how many bytes the pieces have
abbrev pub sizes : List Kept → ℕ
sizes [] = 0
sizes (k ∷ ks) = k.size + sizes ks

-- the stack after them
abbrev pub after_pieces : ModeRules → List Kept → Stack → Stack
after_pieces r [] s = s
after_pieces r (k ∷ ks) s = after_pieces r ks (after_kept r k s)

-- what the block says of its pieces is true, if this is the stack where it begins
pub record IsMarked (s : Stack) (b : Block) : Type 0 where
  pub stack : b.stack ≡ s
  pub size : b.size ≡ sizes b.pieces.items
  pub within : AreWithin b.reach 0 b.pieces.items
  pub least : (n : ℕ) → AreWithin n 0 b.pieces.items → b.reach ≤ n

-- that of each block is, one after another
abbrev pub AreMarked : ModeRules → Stack → List Block → Type 0
AreMarked r s [] = Unit {0}
AreMarked r s (b ∷ bs) = IsMarked s b × AreMarked r (after_pieces r b.pieces.items s) bs

-- ---- places among the pieces of blocks

-- the pieces of the block with this number; none, if there is no such block
abbrev pub pieces_at : List Block → ℕ → List Kept
pieces_at [] n = []
pieces_at (b ∷ bs) zero = b.pieces.items
pieces_at (b ∷ bs) (suc n) = pieces_at bs n

-- in front lie `block` blocks, `piece` pieces of the next one, and `count` pieces in all
pub record IsSpot (bs : List Block) (block piece count : ℕ) : Type 0 where
  pub block_in : block ≤ length bs
  pub piece_in : piece ≤ length (pieces_at bs block)
  pub count_is : count ≡ length (pieces_in (take block bs)) + piece

-- ---- the piece that holds a byte

-- how many bytes the blocks have
abbrev pub size_in : List Block → ℕ
size_in [] = 0
size_in (b ∷ bs) = b.size + size_in bs

-- the block begins at this place, and holds the byte
pub record IsBlockAt (bs : List Block) (b : Block) (begins at : ℕ) : Type 0 where
  pub number : ℕ
  pub there : slice_get bs number ≡ Some b
  pub begins_is : begins ≡ size_in (take number bs)
  pub before : begins ≤ at
  pub behind : at < begins + b.size

-- the piece of which this is kept begins at this place, the first one beginning at `from`, and holds the byte
pub record IsPieceAt (ks : List Kept) (from : ℕ) (k : Kept) (begins at : ℕ) : Type 0 where
  pub number : ℕ
  pub there : slice_get ks number ≡ Some k
  pub begins_is : begins ≡ from + sizes (take number ks)
  pub before : begins ≤ at
  pub behind : at < begins + k.size
