-- What a cache holds of the sets that a set leads to.
use Rattle.std.specs.Prelude.{◌≡◌, ℕ, ◌<◌, ◌⊎◌, List, length, slice_get, Option, Some}
use Rattle.std.specs.List.{Contains}
use Rattle.std.specs.BTreeMap.{BTreeMap, get}
use Rattle.lalrpop_nfa.specs.Graph.{Graph}
use Rattle.lalrpop_dfa.specs.Ascending.{Item}
use Rattle.lalrpop_build.specs.Internal.Expansion.{IsEdgeCache, IsClassCache, IsNumberOfEqual}
use Rattle.lalrpop_build.specs.Internal.ClassTransitions.{transitions_cmp}
use Rattle.lalrpop_build.specs.declared.build.target_cache.TargetCache.{TargetCache}
use Rattle.lalrpop_build.specs.declared.build.scratch.Transitions.{Transitions}

-- the number is that of another class whose values take the same edges, or the map has it for these edges
abbrev pub IsFound : List Transitions → TargetCache → ℕ → ℕ → Type 0
IsFound by_class cache c j =
    IsNumberOfEqual by_class cache.by_class.items c j
    ⊎ ((t : Transitions) × ((slice_get by_class c ≡ Some t) × (get transitions_cmp cache.by_edges t ≡ Some j)))

-- only these classes have numbers, and they are within bounds
pub record AreNumbersIn (used : List ℕ) (numbers : List (Option ℕ)) : Type 0 where
  pub within : (c : ℕ) → Contains used c → c < length numbers
  pub all : (c j : ℕ) → slice_get numbers c ≡ Some (Some j) → Contains used c

-- the new map has what the old one had, and for the edges of class c it may have the number j
abbrev pub OnlyAdds : BTreeMap Transitions ℕ → List Transitions → ℕ → ℕ → BTreeMap Transitions ℕ → Type 0
OnlyAdds old by_class c j new = (e t : Transitions) (i : ℕ) → get transitions_cmp new e ≡ Some i → slice_get by_class c ≡ Some t
    → (get transitions_cmp old e ≡ Some i) ⊎ ((t.list.items ≡ e.list.items) × (i ≡ j))

-- each number is that of the set to which the set s leads
pub record IsCacheOf (ns : List Graph) (s : List Item) (by_class : List Transitions) (cache : TargetCache) (sets : List (List Item)) : Type 0 where
  pub edges : IsEdgeCache ns s cache.by_edges sets
  pub classes : IsClassCache ns s by_class cache.by_class.items sets
