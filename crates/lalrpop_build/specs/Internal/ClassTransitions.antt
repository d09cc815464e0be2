-- The test edges that a value takes from a set of items.
use Rattle.std.specs.Prelude.{◌≡◌, ℕ, ◌<◌, ◌⊎◌, ◌↔◌, List, [], length, slice_get, Some}
use Rattle.std.specs.List.{Contains}
use Rattle.std.specs.Cmp.Lexicographic.{slice_cmp}
use Rattle.std.specs.declared.cmp.Ordering.{Ordering}
use Rattle.lalrpop_hir.specs.Range.{Range}
use Rattle.lalrpop_nfa.specs.Graph.{Graph}
use Rattle.lalrpop_build.specs.Internal.Alphabet.{Classes, LeadsBy, HasBoundaryAt, IsEndOf, IsInCell, IsFirstOf}
use Rattle.lalrpop_build.specs.declared.alphabet.Cell.{Cell}
use Rattle.lalrpop_dfa.specs.Ascending.{Item}
use Rattle.lalrpop_build.specs.Items.{IsLeaving}
use Rattle.lalrpop_build.specs.declared.transitions.Transition.{Transition}
use Rattle.lalrpop_build.specs.declared.build.scratch.Transitions.{Transitions}
use Rattle.lalrpop_build.specs.Internal.Blocks.{Block}
use Rattle.lalrpop_build.specs.Internal.Transitions.{transition_cmp, AreTransitions}

-- by the first edge in which they differ
abbrev pub transitions_cmp : Transitions → Transitions → Ordering
transitions_cmp x y = slice_cmp transition_cmp x.list.items y.list.items

-- the numbers are below n
abbrev pub AreBelow : ℕ → List ℕ → Type 0
AreBelow n ks = (k : ℕ) → Contains ks k → k < n

-- no class has an edge
abbrev pub HaveNoEdges : List Transitions → Type 0
HaveNoEdges by_class = (c : ℕ) (t : Transitions) → slice_get by_class c ≡ Some t → t.list.items ≡ []

-- the edges of each class gain those that E allows for it
abbrev pub Gained : List Transitions → List Transitions → (ℕ → Transition → Type 0) → Type 0
Gained old new E = (length new ≡ length old)
    × ((c : ℕ) (t t2 : Transitions) → slice_get old c ≡ Some t → slice_get new c ≡ Some t2 → (l : Transition) → Contains t2.list.items l ↔ (Contains t.list.items l ⊎ E c l))

-- each class has the test edges that leave the items by its values
abbrev pub AreGathered : Classes → List Item → List Transitions → Type 0
AreGathered a items by_class = (length by_class ≡ a.count)
    × ((c : ℕ) (t : Transitions) → slice_get by_class c ≡ Some t → (l : Transition) → Contains t.list.items l ↔ (Contains items l.item × LeadsBy a l.item.0 l.item.1 c l.to))

-- the cells at which labels of the items begin or are over
abbrev pub AreBoundariesOf : Classes → List Item → List ℕ → Type 0
AreBoundariesOf a items boundaries = (k : ℕ) → Contains boundaries k ↔ ((x : Item) × (Contains items x × HasBoundaryAt a x.0 x.1 k))

-- the labels that leave a set begin or are over at the boundaries, and its values take the edges of their classes
pub record IsLaidOut (ns : List Graph) (s : List Item) (cells : List Cell) (boundaries : List ℕ) (by_class : List Transitions) : Type 0 where
  pub ends : (v : ℕ) → ((r : Range) × (IsLeaving ns s r × IsEndOf r v)) ↔ ((k : ℕ) × (Contains boundaries k × IsFirstOf cells k v))
  pub taken : (k c v : ℕ) (t : Transitions) → IsInCell cells k c v → slice_get by_class c ≡ Some t → AreTransitions ns s v t.list.items

-- the values of each block take the edges of its class
abbrev pub HaveTransitions : List Graph → List Item → List Transitions → List Block → Type 0
HaveTransitions ns s by_class blocks = (p : ℕ) (b : Block) → slice_get blocks p ≡ Some b
    → (t : Transitions) × ((slice_get by_class b.class ≡ Some t) × AreTransitions ns s b.range.start t.list.items)
