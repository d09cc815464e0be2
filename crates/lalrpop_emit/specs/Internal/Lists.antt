-- The numbers of a table, of actions, and of a table that runs ahead, in lists of their own.
use Rattle.std.specs.Prelude.{◌≡◌, ◌≢◌, ℕ, ◌+◌, ◌/◌, ◌<◌, ◌≤◌, ◌↔◌, ◌^◌, IsTrue, List, length, slice_get, slice_index, Some}
use Rattle.std.specs.List.{All}
use Rattle.lalrpop_dfa.specs.Dfa.{Row}
use Rattle.lalrpop_dfa.specs.declared.Kind.TheVariants.{Accepts}
use Rattle.lalrpop_dense.specs.DenseTable.{TableNumbers}
use Rattle.lalrpop_rules.specs.Modes.{ModeRules}
use Rattle.bajofeki_rules.specs.EnteredModes.{OneLeadsInto}
use Rattle.bajofeki_rules.specs.declared.action.Action.{Action}
use Rattle.bajofeki_rules.specs.declared.action.Action.TheVariants.{Mode, Push, Pop}
use Rattle.lalrpop_emit.specs.EmitErrors.{IsTooLarge}
use Rattle.lalrpop_emit.specs.NumberedRules.{IsTableOfMode, IsStorableTable}
use Rattle.lalrpop_emit.specs.Ahead.{AheadNumbers, In, IsCounted, Standing, StandsFor, by_column, is_end, is_lost, is_waiting, no_rule, rule_at, rule_number, within_column}
use Rattle.lalrpop_emit.specs.Internal.Walking.{AreRulesBelow, CanRunAhead}
use Rattle.lalrpop_emit.specs.declared.ahead_table.AheadLists.{AheadLists}
use Rattle.lalrpop_emit.specs.declared.table_lists.TableLists.{TableLists}

abbrev pub list_numbers : TableLists → TableNumbers
list_numbers t = record {
  blocks = t.blocks.items;
  pages = t.pages.items;
  start = t.start;
  width = t.width;
  live = t.live;
  accept = t.accept;
  cells = t.cells.items;
}

-- each pattern that a state accepts is among the first `count`
abbrev pub AreBelow : List Row → ℕ → Type 0
AreBelow d count = (state pattern : ℕ) (row : Row) → slice_get d state ≡ Some row → row.kind ≡ Accepts pattern → pattern < count

-- it is the mode's table, can be stored, and accepts only rules that have a name
pub record IsModeTable (r : ModeRules) (m : ℕ) (t : TableNumbers) : Type 0 where
  pub of_mode : IsTableOfMode r m t
  pub storable : IsStorableTable t
  pub rules : AreRulesBelow t (length r.names)

-- each is the table of its mode
abbrev pub AreModeTables : ModeRules → List TableNumbers → Type 0
AreModeTables r ts = (m : ℕ) (t : TableNumbers) → slice_get ts m ≡ Some t → IsModeTable r m t

-- the automaton of the mode accepts only patterns that have a name, and isn't too large
pub record FitsTable (r : ModeRules) (m : ℕ) : Type 0 where
  pub named : (d : List Row) → slice_get r.automata m ≡ Some d → AreBelow d (length r.names)
  pub small : (d : List Row) → slice_get r.automata m ≡ Some d → ¬ IsTooLarge d

-- the mode that the action names fits 16 bits
abbrev pub HasSmallMode : Action → Type 0
HasSmallMode (Mode m) = m < 2 ^ 16
HasSmallMode (Push m) = m < 2 ^ 16
HasSmallMode Pop = Unit {0}

-- the actions lead only into the first `modes` modes
abbrev pub LeadBelow : ℕ → List Action → Type 0
LeadBelow modes actions = (m : ℕ) → OneLeadsInto actions m → m < modes

-- each number fits 32 bits
abbrev pub AreSmall : List ℕ → Type 0
AreSmall numbers = All (λ n. n < 2 ^ 32) numbers

abbrev pub ahead_numbers : AheadLists → AheadNumbers
ahead_numbers a = record {
  start = a.start;
  width = a.width;
  ends = a.ends;
  waiting = a.waiting;
  before = a.before;
  cells = a.cells.items;
}

-- for how many characters more the standing can wait, as far as this is known: the list has it for each row of a table of this stride
abbrev pub patience_in : List ℕ → ℕ → Standing → ℕ
patience_in patience stride (In row) = slice_index patience (row / stride)
patience_in patience stride s = 0

-- the row waits and can wait for 16 characters more, if it is counted; else it can't, as each that waits after it can for fewer than itself
pub record IsCountedRight (a : AheadNumbers) (t : TableNumbers) (patience : List ℕ) (row : ℕ) (s : Standing) : Type 0 where
  pub counted : IsCounted a row → IsTrue (is_waiting t s) × (16 ≤ patience_in patience (t.width + 1) s)
  pub short : ¬ IsCounted a row → IsTrue (is_waiting t s) → patience_in patience (t.width + 1) s < 16
  pub fewer : ¬ IsCounted a row → IsTrue (is_waiting t s)
      → (column : ℕ) → column < within_column a.width → IsTrue (is_waiting t (by_column t a.width s column))
      → patience_in patience (t.width + 1) (by_column t a.width s column) < patience_in patience (t.width + 1) s

-- each of the first `count` columns leads from the row, which stands for `s`, to a row that stands for what is known then
abbrev pub LeadsRight : AheadNumbers → TableNumbers → List Standing → ℕ → Standing → ℕ → Type 0
LeadsRight a t standings row s count = (column : ℕ) → column < count → StandsFor a standings (slice_index a.cells (row + column)) (by_column t a.width s column)

-- the row's cells are those of a row that stands for `s`; it is among the rows of ends just if `s` is one, begins at 0 just if `s` is `Lost`, and is counted
-- as it should be
pub record IsRightRow (a : AheadNumbers) (t : TableNumbers) (standings : List Standing) (patience : List ℕ) (row : ℕ) (s : Standing) : Type 0 where
  pub leads : LeadsRight a t standings row s a.width
  pub rule : slice_index a.cells (row + a.width) ≡ rule_number (rule_at t s)
  pub told : rule_at t s ≢ Some no_rule
  pub ends : IsTrue (is_end s) ↔ (a.ends ≤ row)
  pub lost : IsTrue (is_lost s) ↔ (row ≡ 0)
  pub counted : IsCountedRight a t patience row s

-- each runs ahead of its table
abbrev pub AreAheadTables : List AheadNumbers → List TableNumbers → Type 0
AreAheadTables aheads ts = (m : ℕ) (a : AheadNumbers) (t : TableNumbers) → slice_get aheads m ≡ Some a → slice_get ts m ≡ Some t → CanRunAhead a t
