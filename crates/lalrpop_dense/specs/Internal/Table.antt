-- A table of where characters lead, and when it is right for an automaton.
use Rattle.std.specs.Prelude.{◌≡◌, ℕ, ◌+◌, ◌-◌, ◌*◌, ◌/◌, ◌%◌, ◌^◌, ◌<◌, ◌≤◌, List, length, min, slice_get, slice_index, Some}
use Rattle.lalrpop_dfa.specs.Dfa.{Row, step}
use Rattle.lalrpop_dfa.specs.declared.Kind.{Kind}
use Rattle.lalrpop_dfa.specs.declared.Kind.TheVariants.{Accepts, Reject, Neither}
use Rattle.lalrpop_dense.specs.declared.table.Layout.{Layout}
use Rattle.lalrpop_dense.specs.declared.table.StoredCells.{StoredCells}
use Rattle.lalrpop_dense.specs.declared.table.StoredCells.TheVariants.{Narrow, Wide}

-- the block of the page with this number; pages after the last one have its block
abbrev pub page_of : Layout → ℕ → ℕ
page_of t k = slice_index t.pages.items (min k (length t.pages.items - 1))

-- the class of a character
abbrev pub class_of : Layout → ℕ → ℕ
class_of t c = slice_index t.blocks.items (page_of t (c / 128) * 128 + c % 128)

-- where the row of the state p begins
abbrev pub row_of : Layout → ℕ → ℕ
row_of t p = slice_index t.rows.items p

-- each character has a class, and the block of ASCII is the first
pub record HasClasses (t : Layout) : Type 0 where
  pub pages : 0 < length t.pages.items
  pub ascii : slice_index t.pages.items 0 ≡ 0
  pub blocks : (k : ℕ) → k < length t.pages.items → slice_index t.pages.items k * 128 + 128 ≤ length t.blocks.items
  pub below : (k : ℕ) → k < length t.blocks.items → slice_index t.blocks.items k < t.width

-- the row is among those of its kind, and the pattern follows the row of an accepting state
abbrev pub IsRowOfKind : Layout → List ℕ → ℕ → Kind → Type 0
IsRowOfKind t cells row Reject = row < t.live
IsRowOfKind t cells row Neither = (t.live ≤ row) × (row < t.accept)
IsRowOfKind t cells row (Accepts i) = (t.live ≤ row) × (t.accept ≤ row) × (slice_index cells (row + t.width) ≡ i)

-- the cell of each character's class is the start of the row of the state that the character leads to
abbrev pub LeadsRight : Layout → List ℕ → List Row → ℕ → Type 0
LeadsRight t cells d p = (c : ℕ) → c < 1114112 → slice_index cells (row_of t p + class_of t c) ≡ row_of t (step d p c)

-- no two states have one row
abbrev pub HaveOwnRows : List ℕ → Type 0
HaveOwnRows rows = (p q : ℕ) → p < length rows → q < length rows → slice_index rows p ≡ slice_index rows q → p ≡ q

-- each state has a row of its own and of its kind, which leads each character where the state does
pub record IsTableOf (t : Layout) (cells : List ℕ) (d : List Row) : Type 0 where
  pub short : length cells < 2 ^ 64
  pub classes : HasClasses t
  pub rows : length t.rows.items ≡ length d
  pub within : (p : ℕ) → p < length t.rows.items → row_of t p + t.width < length cells
  pub own : HaveOwnRows t.rows.items
  pub kinds : (p : ℕ) (r : Row) → slice_get d p ≡ Some r → IsRowOfKind t cells (row_of t p) r.kind
  pub leads : (p : ℕ) → p < length d → LeadsRight t cells d p

-- cells of either size are numbers
abbrev pub numbers_of : StoredCells → List ℕ
numbers_of (Narrow cells) = cells.items
numbers_of (Wide cells) = cells.items
