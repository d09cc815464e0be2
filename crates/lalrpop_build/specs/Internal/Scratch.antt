-- Scratch for what leaves a set of items, reused from set to set.
use Rattle.std.specs.Prelude.{◌≡◌, ℕ, ◌⊎◌, Bool, true, List, [], length, map, slice_get, Some}
use Rattle.std.specs.List.{Contains}
use Rattle.lalrpop_nfa.specs.Graph.{Graph}
use Rattle.lalrpop_nfa.specs.Partition.{IsPartition}
use Rattle.lalrpop_dfa.specs.Ascending.{Item}
use Rattle.lalrpop_build.specs.Items.{IsLeaving}
use Rattle.lalrpop_build.specs.Internal.Alphabet.{Classes, HasBoundary, IsInCell, IsSound}
use Rattle.lalrpop_build.specs.declared.alphabet.Cell.{Cell}
use Rattle.lalrpop_build.specs.declared.alphabet.Group.{Group}
use Rattle.lalrpop_build.specs.Internal.Blocks.{Block, blocks_of}
use Rattle.lalrpop_build.specs.Internal.ClassTransitions.{HaveNoEdges, AreBelow, HaveTransitions}
use Rattle.lalrpop_build.specs.declared.build.scratch.Boundaries.{Boundaries}
use Rattle.lalrpop_build.specs.declared.build.scratch.EdgesByClass.{EdgesByClass}
use Rattle.lalrpop_build.specs.declared.build.scratch.Transitions.{Transitions}
use Rattle.lalrpop_build.specs.declared.build.scratch.Scratch.{Scratch}

-- the noted classes are within bounds, and no other class has an edge
pub record AreNoted (by_class : List Transitions) (used : List ℕ) : Type 0 where
  pub within : AreBelow (length by_class) used
  pub all : (c : ℕ) (t : Transitions) → slice_get by_class c ≡ Some t → (t.list.items ≡ []) ⊎ Contains used c

-- the listed groups are within bounds, and no other group is marked
pub record AreMarked (marks : List Bool) (listed : List ℕ) : Type 0 where
  pub within : AreBelow (length marks) listed
  pub all : (n : ℕ) → slice_get marks n ≡ Some true → Contains listed n

-- no group is marked
abbrev pub AreUnmarked : List Bool → Type 0
AreUnmarked marks = (n : ℕ) → slice_get marks n ≡ Some true → ⊥

-- the boundaries of each marked group are present
pub record HoldMarked (groups : List Group) (boundaries : Boundaries) : Type 0 where
  pub count : length boundaries.marks.items ≡ length groups
  pub marked : AreMarked boundaries.marks.items boundaries.groups.items
  pub there : (n k : ℕ) → slice_get boundaries.marks.items n ≡ Some true → HasBoundary groups n k → Contains boundaries.places.items k

-- only the noted classes have edges, and only the listed groups are marked
pub record IsTidy (scratch : Scratch) : Type 0 where
  pub noted : AreNoted scratch.edges.lists.items scratch.edges.used.items
  pub marked : AreMarked scratch.boundaries.marks.items scratch.boundaries.groups.items

-- the same for its parts, while edges and boundaries are added; the numbers of classes and of groups stay
pub record StaysTidy (boundaries boundaries2 : Boundaries) (edges edges2 : EdgesByClass) : Type 0 where
  pub noted : AreNoted edges2.lists.items edges2.used.items
  pub marked : AreMarked boundaries2.marks.items boundaries2.groups.items
  pub classes : length edges2.lists.items ≡ length edges.lists.items
  pub groups : length boundaries2.marks.items ≡ length boundaries.marks.items

-- the scratch is empty
pub record IsCleared (scratch : Scratch) : Type 0 where
  pub tidy : IsTidy scratch
  pub no_boundaries : scratch.boundaries.places.items ≡ []
  pub no_marks : AreUnmarked scratch.boundaries.marks.items
  pub no_edges : HaveNoEdges scratch.edges.lists.items

-- scratch for the classes and the groups of an alphabet
pub record IsScratchOf (a : Classes) (scratch : Scratch) : Type 0 where
  pub sound : IsSound a
  pub classes : length scratch.edges.lists.items ≡ a.count
  pub groups : length scratch.boundaries.marks.items ≡ length a.groups
  pub tidy : IsTidy scratch

-- the first value of the block lies in a cell of its class, which has edges
abbrev pub IsTaken : List Cell → List Transitions → Block → Type 0
IsTaken cells by_class b = (k : ℕ) × (t : Transitions) × (IsInCell cells k b.class b.range.start × (slice_get by_class b.class ≡ Some t) × (t.list.items ≡ [] → ⊥))

abbrev pub AreTaken : List Cell → List Transitions → List Block → Type 0
AreTaken cells by_class blocks = (b : Block) → Contains blocks b → IsTaken cells by_class b

-- what leaves the set s is present: the boundaries of its labels, and the edges of each class
pub record IsFilled (ns : List Graph) (a : Classes) (s : List Item) (boundaries : List ℕ) (by_class : List Transitions) : Type 0 where
  pub sound : IsSound a
  pub count : length by_class ≡ a.count
  pub within : AreBelow (length a.cells) boundaries
  pub ranges : IsPartition (IsLeaving ns s) (map (λ b. b.range) (blocks_of a.cells by_class boundaries))
  pub transitions : HaveTransitions ns s by_class (blocks_of a.cells by_class boundaries)
