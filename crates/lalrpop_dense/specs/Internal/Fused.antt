-- The fused table of a table: where a match ends before a character, it leads on to a copy of the row that START leads to.
use Rattle.std.specs.Prelude.{◌≡◌, ◌≢◌, ℕ, ◌+◌, ◌<◌, ◌≤◌, ◌⊎◌, List, length, slice_index, IfSome}
use Rattle.std.specs.List.{Contains}
use Rattle.lalrpop_dfa.specs.Dfa.{Row}
use Rattle.lalrpop_dense.specs.Internal.Table.{IsTableOf, class_of, numbers_of, row_of}
use Rattle.lalrpop_dense.specs.Internal.SelfLoops.{IsIn, AreIn}
use Rattle.lalrpop_dense.specs.declared.table.Layout.{Layout}
use Rattle.lalrpop_dense.specs.declared.table.Table.{Table}
use Rattle.lalrpop_dense.specs.declared.fused.Fused.{Fused}
use Rattle.lalrpop_dense.specs.declared.fused.FusedRow.{FusedRow}
use Rattle.lalrpop_dense.specs.declared.self_loop.SelfLoop.{SelfLoop}

-- a fused row begins at `start`, and stands for the row of the table that begins at `origin`
abbrev pub IsRow : Fused → ℕ → ℕ → Type 0
IsRow f start origin = Contains f.rows.items (record { start = start; origin = origin })

-- a match ends in this row before a character of the class: the state accepts, isn't START, and the character leads to a reject state
pub record EndsBefore (t : Layout) (cells : List ℕ) (row class : ℕ) : Type 0 where
  pub live : t.live ≤ row
  pub accepts : t.accept ≤ row
  pub later : row ≢ row_of t 0
  pub dead : slice_index cells (row + class) < t.live

-- where a fused row leads by a class: nowhere, to where its state leads, or, if a match ends there, to where START leads
abbrev pub Leads : Fused → Layout → List ℕ → FusedRow → ℕ → Type 0
Leads f t cells r class =
    (slice_index (numbers_of f.cells) (r.start + class) ≡ 0)
    ⊎ (((slice_index (numbers_of f.cells) (r.start + class) < f.emit)
    × IsRow f (slice_index (numbers_of f.cells) (r.start + class)) (slice_index cells (r.origin + class)))
    ⊎ ((f.emit ≤ slice_index (numbers_of f.cells) (r.start + class)) × EndsBefore t cells r.origin class
    × IsRow f (slice_index (numbers_of f.cells) (r.start + class)) (slice_index cells (row_of t 0 + class))))

-- a fused row has a cell for each class, and the pattern after them
pub record IsRightRow (f : Fused) (t : Layout) (cells : List ℕ) (r : FusedRow) : Type 0 where
  pub within : r.start + t.width < length (numbers_of f.cells)
  pub pattern : slice_index (numbers_of f.cells) (r.start + t.width) ≡ slice_index cells (r.origin + t.width)
  pub leads : (class : ℕ) → class < t.width → Leads f t cells r class

-- the row isn't a copy, and leads back to itself on each of the bytes
pub record LeadsBack (f : Fused) (t : Layout) (s : SelfLoop) : Type 0 where
  pub some : 0 < s.row
  pub plain : s.row < f.emit
  pub back : (byte : ℕ) → IsIn s byte → slice_index (numbers_of f.cells) (s.row + class_of t byte) ≡ s.row

-- it begins in the row of START, all its rows are right, and each stays on the bytes listed for it
pub record IsFusedOf (f : Fused) (t : Layout) (cells : List ℕ) : Type 0 where
  pub start : IsRow f f.first (row_of t 0)
  pub rows : (r : FusedRow) → Contains f.rows.items r → IsRightRow f t cells r
  pub stays : (s : SelfLoop) → Contains f.stays.items s → LeadsBack f t s

-- the bytes from one place to the other, if there are any, are listed as ones on which the row stays
abbrev pub StaysOn : Fused → ℕ → List ℕ → ℕ → ℕ → Type 0
StaysOn f row bytes at to = (at ≡ to) ⊎ ((s : SelfLoop) × Contains f.stays.items s × (s.row ≡ row) × AreIn s bytes at to)

-- the table is right for the automaton, and its fused table, if it has one, is right for the table
pub record IsTable (t : Table) (d : List Row) : Type 0 where
  pub plain : IsTableOf t.layout (numbers_of t.cells) d
  pub fused : IfSome t.fused (λ f. IsFusedOf f t.layout (numbers_of t.cells))
