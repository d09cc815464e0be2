-- A table whose classes have other numbers.
use Rattle.std.specs.Prelude.{◌≡◌, ℕ, ◌+◌, ◌*◌, ◌<◌, List, length, slice_index}
use Rattle.lalrpop_dense.specs.DenseTable.{TableNumbers}

-- a row begins there, if it is within the cells
abbrev pub IsRowPlace : TableNumbers → ℕ → Type 0
IsRowPlace t row = (number : ℕ) × (row ≡ number * (t.width + 1))

-- the table with these blocks and cells
abbrev pub renumbered : TableNumbers → List ℕ → List ℕ → TableNumbers
renumbered t blocks cells = record t { blocks = blocks; cells = cells }

-- the class there has its new number, which is below the width and fits eight bits
pub record IsMovedClass (t : TableNumbers) (blocks numbers : List ℕ) (place : ℕ) : Type 0 where
  pub moved : slice_index blocks place ≡ slice_index numbers (slice_index t.blocks place)
  pub below : slice_index blocks place < t.width
  pub small : slice_index blocks place < 256

-- each class of the blocks has its new number
pub record AreMovedBlocks (t : TableNumbers) (blocks numbers : List ℕ) : Type 0 where
  pub size : length blocks ≡ length t.blocks
  pub each : (place : ℕ) → place < length t.blocks → IsMovedClass t blocks numbers place

-- by its new number the class leads from the row to the same row, and a row begins there
abbrev pub IsMovedCell : TableNumbers → List ℕ → List ℕ → ℕ → ℕ → Type 0
IsMovedCell t cells numbers row class = (slice_index cells (row + slice_index numbers class) ≡ slice_index t.cells (row + class))
    × IsRowPlace t (slice_index t.cells (row + class))

-- the row leads to the same rows, and has the same rule
pub record IsMovedRow (t : TableNumbers) (cells numbers : List ℕ) (row : ℕ) : Type 0 where
  pub leads : (class : ℕ) → class < t.width → IsMovedCell t cells numbers row class
  pub rule : slice_index cells (row + t.width) ≡ slice_index t.cells (row + t.width)

-- each row within the cells leads to the same rows, and has the same rule
pub record AreMovedCells (t : TableNumbers) (cells numbers : List ℕ) : Type 0 where
  pub size : length cells ≡ length t.cells
  pub each : (row : ℕ) → IsRowPlace t row → row + t.width < length t.cells → IsMovedRow t cells numbers row

-- the blocks and cells are those of the table, by the new numbers of classes
pub record IsRenumbered (t : TableNumbers) (blocks cells numbers : List ℕ) : Type 0 where
  pub begins : IsRowPlace t t.start
  pub classes : AreMovedBlocks t blocks numbers
  pub rows : AreMovedCells t cells numbers
