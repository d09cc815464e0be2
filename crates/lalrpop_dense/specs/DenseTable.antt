-- cases: proofs/Cases/DenseTable.antt
-- A table of numbers that runs an automaton: classes of characters, and cells that lead from a row by a class to a row.
use Rattle.std.specs.Prelude.{◌≡◌, ℕ, ◌+◌, ◌-◌, ◌*◌, ◌/◌, ◌%◌, ◌<◌, ◌≤◌, List, [], ◌∷◌, length, min, slice_get, slice_index, IsSomeAnd}
use Rattle.std.specs.List.{All}
use Rattle.lalrpop_dfa.specs.Dfa.{Row, after, step}
use Rattle.lalrpop_dfa.specs.declared.Kind.{Kind}
use Rattle.lalrpop_dfa.specs.declared.Kind.TheVariants.{Accepts, Reject, Neither}
use Rattle.lalrpop_dense.specs.declared.dense_table.DenseTable.{DenseTable}
use Rattle.lalrpop_dense.specs.declared.dense_table.TableCells.{TableCells}
use Rattle.lalrpop_dense.specs.declared.dense_table.TableCells.TheVariants.{Narrow, Wide}

-- the numbers of a table: classes in blocks of 128, the block of each page of 128 characters, where the row of the start begins,
-- how many classes there are, where the first row begins that isn't dead and the first that accepts; then for each row
-- a cell for each class, and one for the pattern
pub record TableNumbers : Type 0 where
  pub blocks : List ℕ
  pub pages : List ℕ
  pub start : ℕ
  pub width : ℕ
  pub live : ℕ
  pub accept : ℕ
  pub cells : List ℕ

-- cells of either size are numbers
abbrev pub cell_numbers : TableCells → List ℕ
cell_numbers (Narrow cells) = cells.now
cell_numbers (Wide cells) = cells.now

-- the numbers that the slices hold
abbrev pub table_numbers : DenseTable → TableNumbers
table_numbers t = record {
  blocks = t.blocks.now;
  pages = t.pages.now;
  start = t.start;
  width = t.width;
  live = t.live;
  accept = t.accept;
  cells = cell_numbers t.cells;
}

-- the block of the page with this number; pages after the last one have its block
abbrev pub block_of_page : TableNumbers → ℕ → ℕ
block_of_page t page = slice_index t.pages (min page (length t.pages - 1))

-- the class of a character
abbrev pub character_class : TableNumbers → ℕ → ℕ
character_class t c = slice_index t.blocks (block_of_page t (c / 128) * 128 + c % 128)

-- where the row begins that the character leads to
abbrev pub next_row : TableNumbers → ℕ → ℕ → ℕ
next_row t row c = slice_index t.cells (row + character_class t c)

-- where the row begins that the characters lead to, one after another
abbrev pub row_after : TableNumbers → ℕ → List ℕ → ℕ
row_after t row [] = row
row_after t row (c ∷ w) = row_after t (next_row t row c) w

-- the row is dead, or accepts, or does neither, as a state of the kind does, and accepts the same pattern
abbrev pub IsRowLike : TableNumbers → ℕ → Kind → Type 0
IsRowLike t row Reject = row < t.live
IsRowLike t row Neither = (t.live ≤ row) × (row < t.accept)
IsRowLike t row (Accepts i) = (t.live ≤ row) × (t.accept ≤ row) × (slice_index t.cells (row + t.width) ≡ i)

-- each character has a class, and ASCII is the first block
pub record AreClasses (t : TableNumbers) : Type 0 where
  pub some_page : 0 < length t.pages
  pub ascii : slice_index t.pages 0 ≡ 0
  pub whole_blocks : (k : ℕ) → k < length t.pages → slice_index t.pages k * 128 + 128 ≤ length t.blocks
  pub below : (k : ℕ) → k < length t.blocks → slice_index t.blocks k < t.width

-- after each word of characters, the row is in the table, and is like the state of the automaton; and one state has one row
pub record IsTableFor (t : TableNumbers) (d : List Row) : Type 0 where
  pub classes : AreClasses t
  pub within : (w : List ℕ) → All (λ c. c < 1114112) w → row_after t t.start w + t.width < length t.cells
  pub alike : (w : List ℕ) → All (λ c. c < 1114112) w → IsSomeAnd (slice_get d (after d w)) (λ r. IsRowLike t (row_after t t.start w) r.kind)
  pub one_row : (u w : List ℕ) → All (λ c. c < 1114112) u → All (λ c. c < 1114112) w → after d u ≡ after d w → row_after t t.start u ≡ row_after t t.start w

-- each state leads characters of one class to one state
abbrev pub AreAlikeInClasses : TableNumbers → List Row → Type 0
AreAlikeInClasses t d = (c e state : ℕ) → c < 1114112 → e < 1114112 → character_class t c ≡ character_class t e → state < length d → step d state c ≡ step d state e
