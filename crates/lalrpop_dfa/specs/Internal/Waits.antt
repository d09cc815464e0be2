-- For how many values in a row states wait.
use Rattle.std.specs.Prelude.{◌≡◌, ℕ, ◌<◌, ◌≤◌, ◌⊎◌, List, length, slice_index, Bool}
use Rattle.lalrpop_dfa.specs.Dfa.{Row, step}
use Rattle.lalrpop_dfa.specs.Lookahead.{IsAccepting}
use Rattle.lalrpop_dfa.specs.Internal.Marks.{IsWaiting, Marked, WaitsFor}

-- the greatest of the numbers of the states that the values of the state p lead to
pub record IsGreatest (d : List Row) (numbers : List ℕ) (p greatest : ℕ) : Type 0 where
  pub most : (c : ℕ) → slice_index numbers (step d p c) ≤ greatest
  pub reached : (c : ℕ) × (slice_index numbers (step d p c) ≡ greatest)

-- each state waits for so many values in a row, or more, with it itself; those that can wait forever have 0
pub record AreWaits (d : List Row) (ever : List Bool) (numbers : List ℕ) : Type 0 where
  pub same_length : length numbers ≡ length d
  pub waits : (p k : ℕ) → p < length d → k < slice_index numbers p → WaitsFor d k p
  pub finite : (p : ℕ) → p < length d → 0 < slice_index numbers p → ¬ Marked ever p

-- no number is less than it was; that of a state that waits, but not forever, is more than those of the states that its values lead to were
pub record AreLonger (d : List Row) (ever : List Bool) (old new : List ℕ) : Type 0 where
  pub are : AreWaits d ever new
  pub least : (p : ℕ) → p < length d → slice_index old p ≤ slice_index new p
  pub more : (p c : ℕ) → p < length d → IsWaiting d p → ¬ Marked ever p → slice_index old (step d p c) < slice_index new p

-- they are the greatest such numbers
pub record AreAllWaits (d : List Row) (ever : List Bool) (numbers : List ℕ) : Type 0 where
  pub are : AreWaits d ever numbers
  pub all : (k p : ℕ) → WaitsFor d k p → ¬ Marked ever p → k < slice_index numbers p

-- the greatest of the numbers of the states that some value leads to from a state that accepts and is reached; 0 if there is none
pub record IsMostEntered (d : List Row) (reached : List Bool) (numbers : List ℕ) (most : ℕ) : Type 0 where
  pub bound : (p c : ℕ) → Marked reached p → IsAccepting d p → slice_index numbers (step d p c) ≤ most
  pub entered : (most ≡ 0) ⊎ ((p c : ℕ) × ((Marked reached p × IsAccepting d p) × (slice_index numbers (step d p c) ≡ most)))
