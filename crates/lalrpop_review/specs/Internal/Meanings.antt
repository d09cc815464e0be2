-- What the tokens of all rules of two lexers are, and which of them are the same.
use Rattle.std.specs.Prelude.{◌≡◌, ◌≢◌, ℕ, ◌<◌, ◌≤◌, List, length, slice_get, Some}
use Rattle.lalrpop_rules.specs.Modes.{ModeRules}
use Rattle.lalrpop_review.specs.Apart.{Told, told}
use Rattle.lalrpop_review.specs.declared.apart.Meaning.{Meaning}

-- what the code keeps of a rule says this
abbrev pub meant : Meaning → Told
meant m = record { name = m.name.now; skipped = m.is_skipped; actions = m.actions.now }

-- what a token of each rule is, in order
pub record AreTold (r : ModeRules) (ts : List Told) : Type 0 where
  pub one_each : length ts ≡ length r.trees
  pub each : (i : ℕ) → i < length r.trees → slice_get ts i ≡ told r (Some i)

-- k is the place of the first one that is the same as that at the place i
pub record IsFirst (ts : List Told) (i k : ℕ) : Type 0 where
  pub within : k ≤ i
  pub same : slice_get ts k ≡ slice_get ts i
  pub none_before : (j : ℕ) → j < k → slice_get ts j ≢ slice_get ts i

-- for each the place of the first one that is the same
pub record AreFirsts (ts : List Told) (places : List ℕ) : Type 0 where
  pub one_each : length places ≡ length ts
  pub first : (i k : ℕ) → slice_get places i ≡ Some k → IsFirst ts i k
