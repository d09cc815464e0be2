-- The rows of a run along columns, of a table that runs ahead.
use Rattle.std.specs.Prelude.{◌≡◌, ◌≢◌, ℕ, suc, ◌+◌, ◌*◌, ◌<◌, List, ◌∷◌, length, take, slice_index}
use Rattle.lalrpop_dense.specs.DenseTable.{TableNumbers}
use Rattle.lalrpop_emit.specs.Ahead.{AheadNumbers, Standing, StandsFor, standing_after}

-- a row begins there, and is within the cells
abbrev pub IsRowOf : AheadNumbers → ℕ → Type 0
IsRowOf a row = (k : ℕ) × (row ≡ k * (a.width + 1)) × (row + a.width < length a.cells)

-- a run begins in a row, and each column of a row leads to one
pub record IsClosed (a : AheadNumbers) : Type 0 where
  pub begins : IsRowOf a a.start
  pub leads : (row column : ℕ) → IsRowOf a row → column < a.width → IsRowOf a (slice_index a.cells (row + column))

-- the column at the place leads from the row before it, which is the start at first, to the row there
abbrev pub IsStepAt : AheadNumbers → List ℕ → List ℕ → ℕ → Type 0
IsStepAt a columns rows k = slice_index rows k ≡ slice_index a.cells (slice_index (a.start ∷ rows) k + slice_index columns k)

-- the rows are those of one run along the columns
abbrev pub IsRun : AheadNumbers → List ℕ → List ℕ → Type 0
IsRun a columns rows = (k : ℕ) → k < length rows → IsStepAt a columns rows k

-- no part of this size begins at the place, but perhaps the first
abbrev pub IsWithinPart : ℕ → ℕ → Type 0
IsWithinPart part k = (j : ℕ) → k ≢ suc j * part

-- the rows of each part are those of a run; the first begins at the start
abbrev pub AreRuns : AheadNumbers → ℕ → List ℕ → List ℕ → Type 0
AreRuns a part columns rows = (k : ℕ) → k < length rows → IsWithinPart part k → IsStepAt a columns rows k

-- each row stands for what is known after the columns up to there
abbrev pub AreStandings : AheadNumbers → TableNumbers → List Standing → List ℕ → List ℕ → Type 0
AreStandings a t standings columns rows = (k : ℕ) → k < length rows → StandsFor a standings (slice_index rows k) (standing_after t a.width (take (k + 1) columns))
