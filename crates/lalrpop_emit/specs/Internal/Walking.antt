-- What a walk along a table, and the actions of rules, may rely on, whatever the automaton and the rules are.
use Rattle.std.specs.Prelude.{◌≡◌, ℕ, ◌+◌, ◌<◌, ◌≤◌, ◌^◌, List, ◌∷◌, ◌++◌, length, map, drop, slice_get, slice_index, Some}
use Rattle.std.specs.List.{All}
use Rattle.lalrpop_dense.specs.DenseTable.{TableNumbers, AreClasses, row_after}
use Rattle.bajofeki_rules.specs.EnteredModes.{OneLeadsInto}
use Rattle.bajofeki_rules.specs.declared.action.Action.{Action}
use Rattle.lalrpop_emit.specs.Ahead.{AheadNumbers, IsAheadOf}
use Rattle.lalrpop_emit.specs.NumberedRules.{AreCounted, NumberedRules, action_number}

-- each character has a class, and each word leads to a row
pub record IsWalkable (t : TableNumbers) : Type 0 where
  pub classes : AreClasses t
  pub within : (w : List ℕ) → All (λ c. c < 1114112) w → row_after t t.start w + t.width < length t.cells

-- each rule that a row accepts is among the first `count`
abbrev pub AreRulesBelow : TableNumbers → ℕ → Type 0
AreRulesBelow t count = (w : List ℕ) → All (λ c. c < 1114112) w → t.live ≤ row_after t t.start w → t.accept ≤ row_after t t.start w
    → slice_index t.cells (row_after t t.start w + t.width) < count

-- from the place on stand these actions, which lead only to modes below `modes`, and a 0
pub record AreActionsAt (numbers : List ℕ) (modes place : ℕ) (actions : List Action) : Type 0 where
  pub rest : List ℕ
  pub numbers_are : drop place numbers ≡ map action_number actions ++ (0 ∷ rest)
  pub within : (m : ℕ) → OneLeadsInto actions m → m < modes

-- the numbers of the table that runs ahead are right, and its columns fit 16 bits
pub record CanRunAhead (a : AheadNumbers) (t : TableNumbers) : Type 0 where
  pub right : IsAheadOf a t
  pub few : a.width ≤ 2 ^ 16

-- there is a table for the mode in which a text begins; each can be walked along, and has one that runs ahead of it; each rule that one
-- accepts has a kind and actions, which lead only to modes that have a table
pub record IsDrivable (n : NumberedRules) : Type 0 where
  pub some : 0 < length n.tables
  pub walkable : (m : ℕ) (t : TableNumbers) → slice_get n.tables m ≡ Some t → IsWalkable t
  pub rules : (m : ℕ) (t : TableNumbers) → slice_get n.tables m ≡ Some t → AreRulesBelow t (length n.kinds)
  pub first : length n.first_actions ≡ length n.kinds
  pub actions : (i place : ℕ) → slice_get n.first_actions i ≡ Some place → (actions : List Action) × AreActionsAt n.actions (length n.tables) place actions
  pub as_many : length n.ahead ≡ length n.tables
  pub counted : AreCounted n.ahead
  pub ahead : (m : ℕ) (a : AheadNumbers) (t : TableNumbers) → slice_get n.ahead m ≡ Some a → slice_get n.tables m ≡ Some t → CanRunAhead a t
