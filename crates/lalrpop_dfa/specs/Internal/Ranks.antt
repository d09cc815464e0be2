-- States with ranks, and the least values and words that lead to states of some ranks.
use Rattle.std.specs.Prelude.{◌≡◌, ℕ, ◌+◌, ◌<◌, ◌≤◌, ◌⊎◌, ◌↔◌, List, [], ◌∷◌, length, slice_index, count_by, ◌==◌, Option, Some, None}
use Rattle.std.proofs.Common.{zero, suc}
use Rattle.lalrpop_hir.specs.Word.{IsWord}
use Rattle.lalrpop_dfa.specs.Dfa.{Row, step, run, IsWellFormed}
use Rattle.lalrpop_dfa.specs.Lookahead.{IsAccepting}
use Rattle.lalrpop_dfa.specs.Internal.Marks.{IsWaiting, WaitsAlong}

-- the rank of the state is one of those from `least` to `most`
abbrev pub IsWanted : List ℕ → ℕ → ℕ → ℕ → Type 0
IsWanted ranks least most p = (least ≤ slice_index ranks p) × (slice_index ranks p ≤ most)

-- the least value that leads from the state p to a state with W, if one of 32 bits does
abbrev pub IsLeastInto : List Row → (ℕ → Type 0) → ℕ → Option ℕ → Type 0
IsLeastInto d W p None = (c : ℕ) → c ≤ 4294967295 → ¬ W (step d p c)
IsLeastInto d W p (Some c) = (c ≤ 4294967295) × W (step d p c) × ((b : ℕ) → b < c → ¬ W (step d p b))

-- the state waits, and some n more values of 32 bits leave it so
abbrev pub StaysFor : List Row → ℕ → ℕ → Type 0
StaysFor d n p = IsWaiting d p × ((w : List ℕ) × (IsWord w × WaitsAlong d p w × (length w ≡ n)))

-- the state accepts a tree, and some n values after it leave it open whether a longer match comes
abbrev pub IsGoal : List Row → ℕ → ℕ → Type 0
IsGoal d n p = IsAccepting d p × ((w : List ℕ) × (IsWord w × WaitsAlong d p w × (length w ≡ n)))

-- at most m values lead from the state p to a goal
abbrev pub IsNear : List Row → ℕ → ℕ → ℕ → Type 0
IsNear d n m p = (w : List ℕ) × (IsWord w × IsGoal d n (run d p w) × (length w ≤ m))

-- k waiting states in a row begin with the state p; k may be less than there are if it is `most` or more
abbrev pub IsDepth : List Row → ℕ → ℕ → ℕ → Type 0
IsDepth d most p k = (j : ℕ) → j < most → (j < k) ↔ StaysFor d j p

-- the depth of each state, up to `most`
pub record AreDepths (d : List Row) (most : ℕ) (depths : List ℕ) : Type 0 where
  pub same_length : length depths ≡ length d
  pub each : (p : ℕ) → p < length d → IsDepth d most p (slice_index depths p)
  pub fits : (p : ℕ) → p < length d → slice_index depths p ≤ 18446744073709551615

-- only states that wait have a depth, at most this; none is less than it should be
pub record AreDeep (d : List Row) (most : ℕ) (depths : List ℕ) : Type 0 where
  pub same_length : length depths ≡ length d
  pub low : (p : ℕ) → p < length d → slice_index depths p ≤ most
  pub waiting : (p : ℕ) → p < length d → 0 < slice_index depths p → IsWaiting d p
  pub deep : (j p : ℕ) → j < most → StaysFor d j p → j < slice_index depths p

-- the state's own depth, or one that is less: then it is more than those that its values lead to; none of these allows more
pub record IsShallower (d : List Row) (depths : List ℕ) (p own new : ℕ) : Type 0 where
  pub some : 0 < new
  pub most : new ≤ own
  pub enough : new < own → (c : ℕ) → c ≤ 4294967295 → slice_index depths (step d p c) < new
  pub reached : (new ≤ 1) ⊎ ((c : ℕ) × ((c ≤ 4294967295) × (new ≤ slice_index depths (step d p c) + 1)))

-- no depth is greater than it was, nor than those that its values lead to allowed
pub record AreShallower (d : List Row) (old new : List ℕ) : Type 0 where
  pub same_length : length new ≡ length old
  pub most : (p : ℕ) → p < length d → slice_index new p ≤ slice_index old p
  pub reached : (p : ℕ) → p < length d → (slice_index new p ≤ 1) ⊎ ((c : ℕ) × ((c ≤ 4294967295) × (slice_index new p ≤ slice_index old (step d p c) + 1)))
  pub deep : (most : ℕ) → AreDeep d most old → AreDeep d most new

-- a distance that isn't known
abbrev pub unknown : ℕ
unknown = 18446744073709551615

-- k is how far the state p is from a goal, or more than `most` if that is
abbrev pub IsDistance : List Row → ℕ → ℕ → ℕ → ℕ → Type 0
IsDistance d n most p k = (j : ℕ) → j ≤ most → (k ≤ j) ↔ IsNear d n j p

-- the distance of each state from a goal, up to `most`
pub record AreDistances (d : List Row) (n most : ℕ) (distances : List ℕ) : Type 0 where
  pub same_length : length distances ≡ length d
  pub each : (p : ℕ) → p < length d → IsDistance d n most p (slice_index distances p)

-- a value leads from START to a state that is k away from a goal, and none to one that is nearer; the distances are those up to k
pub record AreNearest (d : List Row) (n k : ℕ) (distances : List ℕ) : Type 0 where
  pub well_formed : IsWellFormed d
  pub fits : k < unknown
  pub are : AreDistances d n k distances
  pub near : (c : ℕ) × ((c ≤ 4294967295) × IsNear d n k (step d 0 c))
  pub least : (j c : ℕ) → c ≤ 4294967295 → IsNear d n j (step d 0 c) → k ≤ j

-- how many distances aren't known
abbrev pub unknown_count : List ℕ → ℕ
unknown_count distances = count_by (λ k. k == unknown) distances

-- from each state whose distance is known, so many values or fewer lead to a goal; they are fewer than there are states whose distance is known; that
-- of a goal is 0
pub record AreWays (d : List Row) (n : ℕ) (distances : List ℕ) : Type 0 where
  pub same_length : length distances ≡ length d
  pub near : (p : ℕ) → p < length d → slice_index distances p < unknown → IsNear d n (slice_index distances p) p
  pub few : (p : ℕ) → p < length d → slice_index distances p < unknown → slice_index distances p + unknown_count distances < length d
  pub goals : (p : ℕ) → p < length d → IsGoal d n p → slice_index distances p ≡ 0

-- the state's own distance, or one more than that of a state that some value leads to; none of these is less
pub record IsNearer (d : List Row) (distances : List ℕ) (p own new : ℕ) : Type 0 where
  pub most : new ≤ own
  pub least : (c : ℕ) → c ≤ 4294967295 → new ≤ slice_index distances (step d p c) + 1
  pub reached : (new ≡ own) ⊎ ((c : ℕ) × ((c ≤ 4294967295) × (slice_index distances (step d p c) + 1 ≡ new)))

-- no distance is greater than it was, nor more than one more than those that its values lead to were
pub record AreNearer (d : List Row) (old new : List ℕ) : Type 0 where
  pub same_length : length new ≡ length old
  pub most : (p : ℕ) → p < length d → slice_index new p ≤ slice_index old p
  pub least : (p c : ℕ) → p < length d → c ≤ 4294967295 → slice_index new p ≤ slice_index old (step d p c) + 1
  pub ways : (n : ℕ) → AreWays d n old → AreWays d n new

-- none is more than one more than those that its values lead to
abbrev pub AreStill : List Row → List ℕ → Type 0
AreStill d distances = (p c : ℕ) → p < length d → c ≤ 4294967295 → slice_index distances p ≤ slice_index distances (step d p c) + 1

-- from the state p on, each value is the least that leads to a state with the property for the number of values left
abbrev pub IsGreedy : List Row → (ℕ → ℕ → Type 0) → ℕ → ℕ → List ℕ → Type 0
IsGreedy d Q zero p [] = Unit {0}
IsGreedy d Q zero p (c ∷ w) = ⊥
IsGreedy d Q (suc n) p [] = ⊥
IsGreedy d Q (suc n) p (c ∷ w) = IsLeastInto d (Q n) p (Some c) × IsGreedy d Q n (step d p c) w
