-- How far the construction of an automaton is.
use Rattle.std.specs.Prelude.{◌≡◌, ℕ, ◌-◌, ◌⊎◌, List, [], ◌∷◌, ◌++◌, length, slice_get, Some, true, false}
use Rattle.lalrpop_dfa.specs.Kernels.{Kernels}
use Rattle.lalrpop_dfa.specs.Ascending.{Item}
use Rattle.lalrpop_build.specs.Internal.Given.{AreAutomata, AreItemsOf}
use Rattle.lalrpop_build.specs.Internal.Subsets.{move}
use Rattle.lalrpop_build.specs.Internal.Transitions.{AreTransitions}
use Rattle.lalrpop_dfa.specs.Internal.Written.{Written}
use Rattle.lalrpop_build.specs.declared.alphabet.Cell.{Cell}
use Rattle.lalrpop_build.specs.Internal.Blocks.{has_edges}
use Rattle.lalrpop_build.specs.Internal.Expansion.{AddedTo, IsBuiltTo}
use Rattle.lalrpop_build.specs.Internal.Labelled.{Labelled}
use Rattle.lalrpop_build.specs.Internal.TargetCache.{IsCacheOf}
use Rattle.lalrpop_build.specs.Internal.Scratch.{IsScratchOf}
use Rattle.lalrpop_build.specs.declared.build.target_cache.TargetCache.{TargetCache}
use Rattle.lalrpop_build.specs.declared.build.scratch.Scratch.{Scratch}
use Rattle.lalrpop_build.specs.declared.build.scratch.Transitions.{Transitions}
use Rattle.lalrpop_build.specs.declared.build.sets.Sets.{Sets}

-- the automata and the precedences that are given, the sets by number and where each was first met, the number being expanded,
-- the rows that are written, and what leaves the number's set
pub record Stage : Type 0 where
  pub automata : Labelled
  pub precedences : List ℕ
  pub kernels : Kernels (List Item)
  pub origins : List (ℕ × ℕ)
  pub number : ℕ
  pub written : Written
  pub boundaries : List ℕ
  pub by_class : List Transitions

-- the stage of a construction with these sets, of which this number is being expanded
abbrev pub stage : Labelled → List ℕ → Sets → ℕ → Scratch → Written → Stage
stage a ps sets number scratch written = record {
  automata = a;
  precedences = ps;
  kernels = sets.kernels;
  origins = sets.origins.items;
  number = number;
  written = written;
  boundaries = scratch.boundaries.places.items;
  by_class = scratch.edges.lists.items;
}

-- only classes with edges have numbers, and each number is that of the set to which the number's set leads
pub record IsExpansion (a : Labelled) (pattern_count : ℕ) (sets : List (List Item)) (number : ℕ) (scratch : Scratch) (cache : TargetCache) : Type 0 where
  pub automata_are : AreAutomata a.graphs
  pub same_len : length a.graphs ≡ pattern_count
  pub scratch_is : IsScratchOf a.alphabet scratch
  pub count : length cache.by_class.items ≡ length scratch.edges.lists.items
  pub some : (c j : ℕ) → slice_get cache.by_class.items c ≡ Some (Some j) → has_edges (slice_get scratch.edges.lists.items c) ≡ true
  pub cache_is : (s : List Item) → slice_get sets number ≡ Some s → IsCacheOf a.graphs s scratch.edges.lists.items cache sets

-- each set keeps its number
abbrev pub Extends : List (List Item) → List (List Item) → Type 0
Extends sets sets2 = (k : ℕ) (s : List Item) → slice_get sets k ≡ Some s → slice_get sets2 k ≡ Some s

-- the number's set is s, whose members are items
pub record IsAt (e : Stage) (s : List Item) : Type 0 where
  pub here : slice_get e.kernels.list e.number ≡ Some s
  pub inside : AreItemsOf e.automata.graphs s
  pub same_length : length e.origins ≡ length e.kernels.list

-- what stays while a row is written
pub record IsSameRow (e e2 : Stage) : Type 0 where
  pub automata : e2.automata ≡ e.automata
  pub precedences : e2.precedences ≡ e.precedences
  pub number : e2.number ≡ e.number
  pub place : e2.kernels.place ≡ e.kernels.place
  pub rows : e2.written.rows ≡ e.written.rows
  pub boundaries : e2.boundaries ≡ e.boundaries
  pub by_class : e2.by_class ≡ e.by_class

-- the number's set s leads to the set with number j by the value v
pub record IsTarget (e : Stage) (s : List Item) (v j : ℕ) (e2 : Stage) : Type 0 where
  pub added : AddedTo e.kernels.list e.origins e.number v (move e.automata.graphs s v) j e2.kernels.list e2.origins
  pub same : IsSameRow e e2
  pub tests : e2.written.tests ≡ e.written.tests

-- the values from x up to y lead to the set with number j, and their edge was written
pub record IsEdgeTo (e : Stage) (s : List Item) (x y : Cell) (j : ℕ) (e2 : Stage) : Type 0 where
  pub some : has_edges (slice_get e.by_class x.class) ≡ true
  pub added : AddedTo e.kernels.list e.origins e.number x.first (move e.automata.graphs s x.first) j e2.kernels.list e2.origins
  pub tests : e2.written.tests ≡ e.written.tests ++ (record { start = x.first; end = y.first - 1 }, j) ∷ []

-- there is no edge to write, or it was written
pub record IsBlockDone (e : Stage) (s : List Item) (x y : Cell) (e2 : Stage) : Type 0 where
  pub same : IsSameRow e e2
  pub cases : ((has_edges (slice_get e.by_class x.class) ≡ false) × (e2.kernels.list ≡ e.kernels.list) × (e2.origins ≡ e.origins) × (e2.written.tests ≡ e.written.tests))
      ⊎ ((j : ℕ) × IsEdgeTo e s x y j e2)

-- the values of a class that has edges take these from the set s
abbrev pub Take : Stage → List Item → ℕ → ℕ → Type 0
Take e s c v = has_edges (slice_get e.by_class c) ≡ true → (t : Transitions) × ((slice_get e.by_class c ≡ Some t) × AreTransitions e.automata.graphs s v t.list.items)

-- the rows of all numbers below that of the next row are written
pub record IsBuilt (e : Stage) : Type 0 where
  pub built : IsBuiltTo e.automata.graphs e.precedences e.kernels.list e.origins e.written.rows (length e.written.rows)
  pub no_tests : e.written.tests ≡ []
