-- Marks on modes, while those that can be entered are found.
use Rattle.std.specs.Prelude.{◌≡◌, ℕ, ◌<◌, ◌≤◌, ◌⊎◌, ◌↔◌, Bool, true, false, cond, List, Some, length, slice_get, Contains}
use Rattle.std.specs.List.{sum_by}
use Rattle.bajofeki_rules.specs.declared.action.Action.{Action}
use Rattle.bajofeki_rules.specs.Stack.{actions_of}
use Rattle.bajofeki_rules.specs.EnteredModes.{CanBeEntered, OneLeadsInto}

abbrev pub Marked : List Bool → ℕ → Type 0
Marked marks m = slice_get marks m ≡ Some true

-- how many modes aren't marked
abbrev pub unmarked : List Bool → ℕ
unmarked marks = sum_by (λ b. cond b 0 1) marks

-- the modes with the property P are marked too; whether one of them wasn't marked before
pub record HasMarked (old : List Bool) (P : ℕ → Type 0) (new : List Bool) (is_any : Bool) : Type 0 where
  pub same_length : length new ≡ length old
  pub each : (m : ℕ) → m < length old → Marked new m ↔ (Marked old m ⊎ P m)
  pub fewer : is_any ≡ true → unmarked new < unmarked old
  pub at_most : unmarked new ≤ unmarked old
  pub none : is_any ≡ false → new ≡ old

-- only modes that can be entered are marked
abbrev pub OnlyEntered : List (List ℕ) → List (List Action) → List Bool → Type 0
OnlyEntered members actions marks = (m : ℕ) → Marked marks m → CanBeEntered members actions (length marks) m

-- where one of the first k rules belongs to a marked mode, it leads into marked ones alone
abbrev pub AreClosed : List (List ℕ) → List (List Action) → ℕ → List Bool → Type 0
AreClosed members actions k marks = (i m n : ℕ) (own : List ℕ) → i < k → slice_get members i ≡ Some own → Contains own m → Marked marks m
    → OneLeadsInto (actions_of actions i) n → n < length marks → Marked marks n

-- what the first k rules lead into, from marked modes on, is marked too; whether there was one that wasn't marked before
pub record HasRound (members : List (List ℕ)) (actions : List (List Action)) (k : ℕ) (old new : List Bool) (is_any : Bool) : Type 0 where
  pub same_length : length new ≡ length old
  pub kept : (m : ℕ) → Marked old m → Marked new m
  pub only : OnlyEntered members actions old → OnlyEntered members actions new
  pub fewer : is_any ≡ true → unmarked new < unmarked old
  pub at_most : unmarked new ≤ unmarked old
  pub none : is_any ≡ false → new ≡ old
  pub closed : is_any ≡ false → AreClosed members actions k old
