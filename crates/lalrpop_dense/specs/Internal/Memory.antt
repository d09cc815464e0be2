-- Pairs of a state and a place that are noted.
use Rattle.std.specs.Prelude.{◌≡◌, ℕ, ◌+◌, ◌<◌, ◌≤◌, Bool, true, List, length, sum_by, slice_get, Option, Some, if◌then◌else◌}
use Rattle.lalrpop_dfa.specs.Dfa.{Row}
use Rattle.lalrpop_dfa.specs.Lookahead.{IsOpen}

-- where the marks of each state begin, if it has some; how many it has, one for each place; and all marks
pub record Memory : Type 0 where
  pub firsts : List (Option ℕ)
  pub places : ℕ
  pub marks : List Bool

-- the state's marks begin there
abbrev pub BeginAt : List (Option ℕ) → ℕ → ℕ → Type 0
BeginAt firsts p a = slice_get firsts p ≡ Some (Some a)

-- all marks are there, and no two states share one
pub record AreApart (firsts : List (Option ℕ)) (places : ℕ) (marks : List Bool) : Type 0 where
  pub fits : (p a : ℕ) → BeginAt firsts p a → a + places ≤ length marks
  pub apart : (p q a b i j : ℕ) → BeginAt firsts p a → BeginAt firsts q b → i < places → j < places → a + i ≡ b + j → p ≡ q

-- the state p has a mark for the place k
pub record HasMark (m : Memory) (p k : ℕ) : Type 0 where
  pub first : ℕ
  pub begins : BeginAt m.firsts p first
  pub within : k < m.places

-- the mark of the state p for the place k is set
pub record IsNoted (m : Memory) (p k : ℕ) : Type 0 where
  pub first : ℕ
  pub begins : BeginAt m.firsts p first
  pub within : k < m.places
  pub marked : slice_get m.marks (first + k) ≡ Some true

-- each open state has marks
abbrev pub IsFor : List Row → Memory → Type 0
IsFor d m = (p : ℕ) → IsOpen d p → (a : ℕ) × BeginAt m.firsts p a

-- how many marks are not set
abbrev pub room : Memory → ℕ
room m = sum_by (λ b. if b then 0 else 1) m.marks
