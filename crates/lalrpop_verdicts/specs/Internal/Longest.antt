-- How long the longest words are that lead from a state to one that accepts, where their lengths have a bound.
use Rattle.std.specs.Prelude.{◌≡◌, ℕ, ◌==◌, ◌+◌, ◌<◌, ◌≤◌, ◌⊎◌, List, length, slice_index, if◌then◌else◌, Vec}
use Rattle.std.specs.Global.{Global}
use Rattle.lalrpop_verdicts.specs.Internal.Shortest.{target_at, targets_at}

-- 0 where no word leads to a state that accepts, or else the greatest number of 64 bits
abbrev pub stop_at : ℕ → ℕ
stop_at n = if n == 18446744073709551615 then 0 else 18446744073709551615

-- each walk from the state stops after at most this many steps: those over edges, and at its end those that the last state stops with
pub data IsBound (table : List (Vec ℕ Global)) (stops : List ℕ) : ℕ → ℕ → Type 0 where
  stops_here : {p x : ℕ} → slice_index stops p ≤ x → IsBound table stops p x
  goes_on : {p x : ℕ} (y : ℕ) → ((k : ℕ) → 0 < k → k < length (targets_at table p) → IsBound table stops (target_at table p k) y) → y < x → IsBound table stops p x

-- each length is such a bound
abbrev pub AreBounds : List (Vec ℕ Global) → List ℕ → List ℕ → Type 0
AreBounds table stops lengths = (p : ℕ) → p < length lengths → IsBound table stops p (slice_index lengths p)

-- no length at a target after the first is greater
abbrev pub IsMost : List ℕ → List ℕ → ℕ → Type 0
IsMost lengths targets y = (k : ℕ) → 0 < k → k < length targets → slice_index lengths (slice_index targets k) ≤ y

-- the least such number
pub record IsGreatestOf (lengths targets : List ℕ) (most : ℕ) : Type 0 where
  pub all : IsMost lengths targets most
  pub least : (y : ℕ) → IsMost lengths targets y → most ≤ y

-- the old length, or a lesser one that all targets allow
pub record IsLowered (lengths targets : List ℕ) (old new : ℕ) : Type 0 where
  pub most : new ≤ old
  pub least : (y : ℕ) → IsMost lengths targets y → new ≤ y + 1
  pub reached : (new ≡ old) ⊎ ((y : ℕ) × (y < new × IsMost lengths targets y))

-- no length is greater than it was, nor more than one more than the greatest of those at its targets was
pub record AreLowered (table : List (Vec ℕ Global)) (old new : List ℕ) : Type 0 where
  pub same_length : length new ≡ length old
  pub most : (p : ℕ) → p < length old → slice_index new p ≤ slice_index old p
  pub least : (p y : ℕ) → p < length old → IsMost old (targets_at table p) y → slice_index new p ≤ y + 1
  pub bounds : (stops : List ℕ) → AreBounds table stops old → AreBounds table stops new

-- each length is a bound, and no bound is less
pub record AreLongest (table : List (Vec ℕ Global)) (stops lengths : List ℕ) : Type 0 where
  pub same_length : length lengths ≡ length stops
  pub most : (p : ℕ) → p < length stops → slice_index lengths p ≤ slice_index stops p
  pub least : (p y : ℕ) → p < length stops → IsMost lengths (targets_at table p) y → slice_index lengths p ≤ y + 1
  pub bounds : AreBounds table stops lengths
