-- A table whose rows lie one after another.
use Rattle.std.specs.Prelude.{◌≡◌, ℕ, ◌+◌, ◌*◌, ◌<◌, ◌≤◌, length, slice_index}
use Rattle.lalrpop_dense.specs.DenseTable.{AreClasses, TableNumbers}

-- one of the rows begins there
abbrev pub IsRowStart : TableNumbers → ℕ → ℕ → Type 0
IsRowStart t rows row = (m : ℕ) × (m < rows) × (row ≡ m * (t.width + 1))

-- there are `rows` rows, all but the first `dead` ones live; each class leads from one to one; the number of a rule is told from that of none
pub record IsRegular (t : TableNumbers) (dead rows : ℕ) : Type 0 where
  pub classes : AreClasses t
  pub live : t.live ≡ dead * (t.width + 1)
  pub some : dead ≤ rows
  pub size : length t.cells ≡ rows * (t.width + 1)
  pub start : IsRowStart t rows t.start
  pub leads : (j class : ℕ) → j < rows → class < t.width → IsRowStart t rows (slice_index t.cells (j * (t.width + 1) + class))
  pub rules : (j : ℕ) → j < rows → slice_index t.cells (j * (t.width + 1) + t.width) < 65535
