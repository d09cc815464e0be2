-- How long the shortest words are that lead from a state to one that accepts.
use Rattle.std.specs.Prelude.{◌≡◌, ℕ, ◌+◌, ◌<◌, ◌≤◌, ◌⊎◌, List, [], length, slice_get, slice_index, Option, Some, None, Vec}
use Rattle.std.specs.Global.{Global}
use Rattle.lalrpop_dfa.specs.Dfa.{Row}
use Rattle.lalrpop_dfa.specs.declared.Kind.{Kind}
use Rattle.lalrpop_verdicts.specs.Answers.{accepted_by}
use Rattle.lalrpop_verdicts.specs.Internal.Classes.{AlikeFrom}

-- 0 if a tree is accepted, or else the greatest number of 64 bits
abbrev pub start_with : Option ℕ → ℕ
start_with None = 18446744073709551615
start_with (Some i) = 0

-- the same at a state of this kind
abbrev pub start_of : Kind → ℕ
start_of k = start_with (accepted_by k)

-- each state has a number, and states that answer alike have the same
pub record AreKept (d : List Row) (numbers : List ℕ) : Type 0 where
  pub same_length : length numbers ≡ length d
  pub kept : (p q : ℕ) → p < length d → q < length d → AlikeFrom d p q → slice_index numbers p ≡ slice_index numbers q

-- where the state leads
abbrev pub targets_at : List (Vec ℕ Global) → ℕ → List ℕ
targets_at table p = items_at (slice_get table p)
  where
    items_at : Option (Vec ℕ Global) → List ℕ
    items_at None = []
    items_at (Some v) = v.items

abbrev pub target_at : List (Vec ℕ Global) → ℕ → ℕ → ℕ
target_at table p k = slice_index (targets_at table p) k

-- a walk from the state takes at most this many steps: those over edges, and at its end those that the last state starts with
pub data IsWalk (table : List (Vec ℕ Global)) (starts : List ℕ) : ℕ → ℕ → Type 0 where
  ends : {p x : ℕ} → slice_index starts p ≤ x → IsWalk table starts p x
  goes : {p x : ℕ} (k y : ℕ) → k < length (targets_at table p) → IsWalk table starts (target_at table p k) y → y < x → IsWalk table starts p x

-- from each state there is a walk of its length
abbrev pub AreWalks : List (Vec ℕ Global) → List ℕ → List ℕ → Type 0
AreWalks table starts lengths = (p : ℕ) → p < length lengths → IsWalk table starts p (slice_index lengths p)

-- the old length, or a lesser one that some target allows; none of the targets allows less
pub record IsShorter (lengths targets : List ℕ) (old new : ℕ) : Type 0 where
  pub most : new ≤ old
  pub least : (k : ℕ) → k < length targets → new ≤ slice_index lengths (slice_index targets k) + 1
  pub reached : (new ≡ old) ⊎ ((k : ℕ) × (k < length targets × (slice_index lengths (slice_index targets k) < new)))

-- no length is greater than it was, nor more than one more than those at the targets were
pub record AreShortened (table : List (Vec ℕ Global)) (old new : List ℕ) : Type 0 where
  pub same_length : length new ≡ length old
  pub most : (p : ℕ) → p < length old → slice_index new p ≤ slice_index old p
  pub least : (p k : ℕ) → p < length old → k < length (targets_at table p) → slice_index new p ≤ slice_index old (target_at table p k) + 1
  pub walks : (starts : List ℕ) → AreWalks table starts old → AreWalks table starts new

-- each length is that of a walk, and no walk is shorter
pub record AreShortest (table : List (Vec ℕ Global)) (starts lengths : List ℕ) : Type 0 where
  pub same_length : length lengths ≡ length starts
  pub most : (p : ℕ) → p < length starts → slice_index lengths p ≤ slice_index starts p
  pub least : (p k : ℕ) → p < length starts → k < length (targets_at table p) → slice_index lengths p ≤ slice_index lengths (target_at table p k) + 1
  pub walks : AreWalks table starts lengths
