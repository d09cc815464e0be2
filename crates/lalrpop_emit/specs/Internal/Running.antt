-- A block of a text that a table has run through: the bits of its ends, and the place in it where the next token begins.
use Rattle.std.specs.Prelude.{◌≡◌, ℕ, ◌+◌, ◌-◌, ◌*◌, ◌/◌, ◌^◌, ◌<◌, ◌≤◌, ◌⊎◌, ◌↔◌, List, length, take, drop, slice_get, slice_index, Some}
use Rattle.std.specs.Int.{bit_at}
use Rattle.lalrpop_hir.specs.Tree.{Tree}
use Rattle.lalrpop_hir.specs.Longest.{IsLongest}
use Rattle.lalrpop_dfa.specs.Dfa.{Row, Recognizes}
use Rattle.lalrpop_dense.specs.DenseTable.{TableNumbers, AreClasses, IsTableFor}
use Rattle.lalrpop_emit.specs.Ahead.{AheadNumbers, IsAheadOf, StandsFor, standing_after}
use Rattle.lalrpop_emit.specs.Internal.Columns.{AreColumns}
use Rattle.lalrpop_emit.specs.Internal.Walking.{AreRulesBelow}
use Rattle.lalrpop_emit.specs.NumberedRules.{NumberedRules}
use Rattle.lalrpop_emit.specs.declared.run.Run.{Run}

-- blocks fit of as many bytes as it has rows
pub record HasRoom (run : Run) : Type 0 where
  pub columns : length run.rows.items ≤ length run.columns.items
  pub ends : length run.rows.items ≤ length run.ends.items * 64
  pub length : run.length ≤ length run.rows.items
  pub word : run.word ≤ run.length / 64

-- 64 bits, for the rows from w * 64 on: each is set just if its row is one of an end
pub record IsWordOf (least : ℕ) (rows : List ℕ) (w bits : ℕ) : Type 0 where
  pub small : bits < 2 ^ 64
  pub are : (i : ℕ) → i < 64 → ((bit_at bits i ≡ 1) ↔ (least ≤ slice_index rows (w * 64 + i)))

-- the block is of whole words of 64 bytes, and the bits are those of its ends
pub record AreEnds (least : ℕ) (run : Run) : Type 0 where
  pub whole : run.length ≡ run.length / 64 * 64
  pub are : (w : ℕ) → w < run.length / 64 → IsWordOf least run.rows.items w (slice_index run.ends.items w)

-- the block was run through: each row stands for what is known after its byte, and the bits are those of its ends
pub record IsRunThrough (a : AheadNumbers) (t : TableNumbers) (text : List ℕ) (run : Run) : Type 0 where
  pub ahead : IsAheadOf a t
  pub classes : AreClasses t
  pub fits : length text < 2 ^ 64
  pub inside : run.base + run.length ≤ length text
  pub columns : AreColumns t a.width 0 (drop run.base text) (take run.length run.columns.items)
  pub rows : (k : ℕ) → k < run.length → StandsFor a ahead.standings (slice_index run.rows.items k) (standing_after t a.width (take (k + 1) (take run.length run.columns.items)))
  pub ends : AreEnds a.ends run

-- a token begins at the place, in the word or before it, which is an end or the beginning; no end lies between them; the bits are the ends after the place
pub record IsAtPlace (least : ℕ) (run : Run) (place : ℕ) : Type 0 where
  pub marked : AreEnds least run
  pub before : place < run.word * 64 + 64
  pub begins : (place ≡ 0) ⊎ (least ≤ slice_index run.rows.items place)
  pub word : run.word < run.length / 64
  pub none : (z : ℕ) → place < z → z < run.word * 64 → slice_index run.rows.items z < least
  pub small : run.bits < 2 ^ 64
  pub bits : (i : ℕ) → i < 64 → ((bit_at run.bits i ≡ 1) ↔ ((place < run.word * 64 + i) × (least ≤ slice_index run.rows.items (run.word * 64 + i))))

-- no end is left
pub record HasNoEnd (run : Run) : Type 0 where
  pub bits : run.bits ≡ 0
  pub word : run.length / 64 ≤ run.word + 1

-- the next end after the place, in the word
pub record IsNextEnd (least : ℕ) (run : Run) (place end : ℕ) : Type 0 where
  pub behind : place < end
  pub from : run.word * 64 ≤ end
  pub to : end < run.word * 64 + 64
  pub ends : least ≤ slice_index run.rows.items end
  pub none : (z : ℕ) → place < z → z < end → slice_index run.rows.items z < least

-- no end lies after the place
abbrev pub IsLastIn : ℕ → Run → ℕ → Type 0
IsLastIn least run place = (z : ℕ) → place < z → z < run.length → slice_index run.rows.items z < least

-- the block is the same
pub record IsSameBlock (old new : Run) : Type 0 where
  pub base : new.base ≡ old.base
  pub length : new.length ≡ old.length
  pub mode : new.mode ≡ old.mode
  pub since : new.since ≡ old.since
  pub columns : new.columns ≡ old.columns
  pub rows : new.rows ≡ old.rows
  pub ends : new.ends ≡ old.ends

-- there is no block, or one that was run through
abbrev pub IsBlock : AheadNumbers → TableNumbers → List ℕ → Run → Type 0
IsBlock a t text run = (run.length ≡ 0) ⊎ IsRunThrough a t text run

-- the block was run through, and the next token in it begins at this place of the text
pub record IsAt (a : AheadNumbers) (t : TableNumbers) (text : List ℕ) (run : Run) (at : ℕ) : Type 0 where
  pub through : IsRunThrough a t text run
  pub behind : run.base ≤ at
  pub place : IsAtPlace a.ends run (at - run.base)

-- what the block says of ends is right for a token that begins at this place of the text: it says nothing, or it is at the place
abbrev pub Serves : AheadNumbers → TableNumbers → List ℕ → Run → ℕ → Type 0
Serves a t text run at = HasNoEnd run ⊎ IsAt a t text run at

-- from the start to the end is the longest match there, by the rule
pub record IsTokenAt (t : TableNumbers) (text : List ℕ) (start rule end : ℕ) : Type 0 where
  pub longest : (d : List Row) → IsTableFor t d → (ts : List Tree) (ps : List ℕ) → Recognizes d ts ps
      → IsLongest ts ps (drop start text) (Some (rule, take (end - start) (drop start text)))
  pub some : start < end
  pub within : end ≤ length text
  pub rules : (count : ℕ) → AreRulesBelow t count → rule < count

-- the tables of the mode have this property
abbrev pub OfMode : NumberedRules → ℕ → (AheadNumbers → TableNumbers → Type 0) → Type 0
OfMode n mode P = (a : AheadNumbers) (t : TableNumbers) → slice_get n.ahead mode ≡ Some a → slice_get n.tables mode ≡ Some t → P a t

-- the block, if there is one, was run through by the tables of its mode, and serves where the text goes on and this mode is on top
pub record IsRunOf (n : NumberedRules) (mode at : ℕ) (text : List ℕ) (run : Run) : Type 0 where
  pub room : HasRoom run
  pub behind : run.base ≤ at
  pub since : run.since ≤ at
  pub block : OfMode n run.mode (λ a t. IsBlock a t text run)
  pub serves : OfMode n mode (λ a t. Serves a t text run at)
