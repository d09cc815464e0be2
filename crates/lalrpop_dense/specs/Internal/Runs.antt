-- Runs of characters of one class.
use Rattle.std.specs.Prelude.{◌≡◌, ℕ, ◌+◌, ◌-◌, ◌/◌, ◌%◌, ◌<◌, ◌≤◌, List, length, slice_index}
use Rattle.std.specs.List.{All}
use Rattle.lalrpop_dfa.specs.Dfa.{Row, step}
use Rattle.lalrpop_dense.specs.Internal.Table.{class_of, page_of, row_of}
use Rattle.lalrpop_dense.specs.declared.table.Layout.{Layout}
use Rattle.lalrpop_dense.specs.declared.check.Run.{Run}
use Rattle.lalrpop_dense.specs.declared.check.Runs.{Runs}

-- all characters of the run are of its class
abbrev pub IsRun : Layout → Run → Type 0
IsRun t r = (c : ℕ) → r.start ≤ c → c < r.end → class_of t c ≡ r.class

-- each character is before the end of its class
abbrev pub AreEnds : Layout → List ℕ → Type 0
AreEnds t ends = (c : ℕ) → c < 1114112 → c < slice_index ends (class_of t c)

-- each run is of one class, and the end of each class is behind its characters
pub record AreRuns (t : Layout) (runs : Runs) : Type 0 where
  pub list : All (IsRun t) runs.list.items
  pub enough : t.width ≤ length runs.ends.items
  pub ends : AreEnds t runs.ends.items

-- the row of the state p leads each character below the value where the state does
abbrev pub LeadsRightBelow : Layout → List ℕ → List Row → ℕ → ℕ → Type 0
LeadsRightBelow t cells d p value = (c : ℕ) → c < value → slice_index cells (row_of t p + class_of t c) ≡ row_of t (step d p c)

-- by each class that has a character from the value on, the row leads to the target
abbrev pub LeadsOn : List ℕ → ℕ → ℕ → ℕ → List ℕ → ℕ → Type 0
LeadsOn cells row target width ends from = (k : ℕ) → k < width → from < slice_index ends k → slice_index cells (row + k) ≡ target

-- by each class that has a character from the value on, the rows lead on alike
abbrev pub LeadOnAlike : List ℕ → ℕ → ℕ → ℕ → List ℕ → ℕ → Type 0
LeadOnAlike cells row earlier width ends from = (k : ℕ) → k < width → from < slice_index ends k → slice_index cells (row + k) ≡ slice_index cells (earlier + k)

-- the value begins a page that has the block of the page before it
pub record IsPageAgain (t : Layout) (value : ℕ) : Type 0 where
  pub begins : value % 128 ≡ 0
  pub later : 0 < value / 128
  pub again : page_of t (value / 128) ≡ page_of t (value / 128 - 1)
