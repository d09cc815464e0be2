-- What the construction of an automaton has made so far, row by row.
use Rattle.std.specs.Prelude.{◌≡◌, ℕ, ◌<◌, ◌≤◌, List, length, map, slice_index, true, false}
use Rattle.std.specs.List.{Contains}
use Rattle.lalrpop_hir.specs.Range.{Range, Covers}
use Rattle.lalrpop_nfa.specs.Graph.{Graph}
use Rattle.lalrpop_hir.specs.States.{accept_state}
use Rattle.lalrpop_nfa.specs.Partition.{IsPartition}
use Rattle.lalrpop_dfa.specs.Dfa.{Row}
use Rattle.lalrpop_dfa.specs.Ascending.{Item}
use Rattle.lalrpop_build.specs.Items.{IsLeaving}
use Rattle.lalrpop_build.specs.Internal.Subsets.{first_set_of, move, is_dead}
use Rattle.lalrpop_build.specs.Internal.BreadthFirst.{Automaton, nth}
use Rattle.lalrpop_dfa.specs.declared.Kind.{Kind}
use Rattle.lalrpop_dfa.specs.declared.Kind.TheVariants.{Accepts, Reject, Neither}

-- sets of items, and where values lead
abbrev pub subset_automaton : List Graph → Automaton (List Item)
subset_automaton ns = record { start = first_set_of ns; move = move ns; dead = is_dead }

-- i is one of the strongest trees that the set accepts
abbrev pub IsStrongestIn : List ℕ → List Item → ℕ → Type 0
IsStrongestIn ps s i = Contains s (i, accept_state) × ((j : ℕ) → Contains s (j, accept_state) → slice_index ps j ≤ slice_index ps i)

-- the kind of a state that holds the set
abbrev pub IsKindOf : List ℕ → List Item → Kind → Type 0
IsKindOf ps s (Accepts i) = IsStrongestIn ps s i × ((j : ℕ) → IsStrongestIn ps s j → j ≡ i)
IsKindOf ps s Reject = is_dead s ≡ true
IsKindOf ps s Neither = (is_dead s ≡ false) × ((i : ℕ) → Contains s (i, accept_state) → ⊥)

-- i is the greatest of the strongest trees that the set accepts, and j the second greatest
pub record IsTied (ps : List ℕ) (s : List Item) (i j : ℕ) : Type 0 where
  pub greatest : IsStrongestIn ps s i
  pub second : IsStrongestIn ps s j
  pub less : j < i
  pub others : (k : ℕ) → IsStrongestIn ps s k → k < i → k ≤ j
  pub above : (k : ℕ) → IsStrongestIn ps s k → k ≤ i

-- the row of number k: its kind, its ranges, and where its edges lead. 4294967295 lies in no label,
-- so it takes the other edge
pub record IsRowOf (ns : List Graph) (ps : List ℕ) (sets : List (List Item)) (k : ℕ) (r : Row) : Type 0 where
  pub items : r.items ≡ nth (subset_automaton ns) sets k
  pub kind : IsKindOf ps (nth (subset_automaton ns) sets k) r.kind
  pub ranges : IsPartition (IsLeaving ns (nth (subset_automaton ns) sets k)) (map (λ t. t.0) r.tests)
  pub leads : (t : Range × ℕ) (c : ℕ) → Contains r.tests t → Covers t.0 c
      → (t.1 < length sets) × (nth (subset_automaton ns) sets t.1 ≡ move ns (nth (subset_automaton ns) sets k) c)
  pub otherwise : (r.other < length sets) × (nth (subset_automaton ns) sets r.other ≡ move ns (nth (subset_automaton ns) sets k) 4294967295)
