-- States that lead most values where an earlier state leads them.
use Rattle.std.specs.Prelude.{◌≡◌, ℕ, ◌-◌, ◌≤◌, List, length, drop, slice_get, Some}
use Rattle.lalrpop_hir.specs.Range.{Range}
use Rattle.lalrpop_dfa.specs.Dfa.{Row, step}
use Rattle.lalrpop_dense.specs.declared.alike.Alike.{Alike}

-- each list has at least this many edges, and the last ones of both are the same
pub record SameEnd (left right : List (Range × ℕ)) (n : ℕ) : Type 0 where
  pub in_left : n ≤ length left
  pub in_right : n ≤ length right
  pub same : drop (length left - n) left ≡ drop (length right - n) right

-- all values from `from` on lead from the state p where they lead from the earlier state
abbrev pub IsAlike : List Row → ℕ → Alike → Type 0
IsAlike d p a = (c : ℕ) → a.from ≤ c → step d p c ≡ step d a.earlier c

-- one for each state
pub record AreAlikes (d : List Row) (xs : List Alike) : Type 0 where
  pub same_length : length xs ≡ length d
  pub each : (p : ℕ) (a : Alike) → slice_get xs p ≡ Some a → IsAlike d p a
