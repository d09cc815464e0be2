-- How many rules of a mode there are of a kind.
use Rattle.std.specs.Prelude.{◌≡◌, ℕ, ◌<◌, ◌≤◌, Some, slice_get}
use Rattle.lalrpop_rules.specs.Modes.{ModeRules}
use Rattle.bajofeki_rules.specs.EnteredModes.{Belongs}

-- the rule belongs to the mode, and is of this kind
abbrev pub IsMember : ModeRules → ℕ → ℕ → ℕ → Type 0
IsMember r m k i = Belongs r.members m i × (slice_get r.kinds i ≡ Some k)

-- a count of the members among the rules below n: at 0 there is none, at 1 there is at most one
pub record IsCount (r : ModeRules) (m n k count : ℕ) : Type 0 where
  pub most : count ≤ n
  pub none : count ≡ 0 → (i : ℕ) → i < n → ¬ IsMember r m k i
  pub one : count ≡ 1 → (i j : ℕ) → i < n → j < n → IsMember r m k i → IsMember r m k j → i ≡ j
