-- cases: proofs/Cases/Alphabet.antt
-- The values that the test edges of some automata read, in classes of values that each state treats alike.
use Rattle.std.specs.Prelude.{◌≡◌, ℕ, ◌+◌, ◌<◌, ◌≤◌, ◌⊎◌, ◌↔◌, List, length, slice_get, Some, IsSomeAnd}
use Rattle.std.specs.List.{Contains}
use Rattle.lalrpop_hir.specs.Range.{Range, Covers}
use Rattle.lalrpop_nfa.specs.Graph.{Graph}
use Rattle.lalrpop_nfa.specs.Path.{test}
use Rattle.lalrpop_build.specs.declared.alphabet.Cell.{Cell}
use Rattle.lalrpop_build.specs.declared.alphabet.Group.{Group}
use Rattle.lalrpop_build.specs.declared.alphabet.EdgeGroup.{EdgeGroup}
use Rattle.lalrpop_build.specs.declared.alphabet.StateEdgeGroups.{StateEdgeGroups}
use Rattle.lalrpop_build.specs.declared.alphabet.NfaEdgeGroups.{NfaEdgeGroups}

-- the cells, the groups of labels, and the edge groups of each state of each automaton
pub record Classes : Type 0 where
  pub cells : List Cell
  pub groups : List Group
  pub nfas : List NfaEdgeGroups
  pub count : ℕ

-- the edge groups of state p of automaton i
abbrev pub AreEdgeGroupsOf : List NfaEdgeGroups → ℕ → ℕ → List EdgeGroup → Type 0
AreEdgeGroupsOf nfas i p ls = (x : NfaEdgeGroups) × (y : StateEdgeGroups) × ((slice_get nfas i ≡ Some x) × (slice_get x.states.items p ≡ Some y) × (ls ≡ y.edge_groups.items))

-- one of the edge groups of state p of automaton i
abbrev pub IsEdgeGroupOf : List NfaEdgeGroups → ℕ → ℕ → EdgeGroup → Type 0
IsEdgeGroupOf nfas i p l = (ls : List EdgeGroup) × (AreEdgeGroupsOf nfas i p ls × Contains ls l)

-- automaton i has a state p
abbrev pub HasState : List NfaEdgeGroups → ℕ → ℕ → Type 0
HasState nfas i p = (x : NfaEdgeGroups) × ((slice_get nfas i ≡ Some x) × (p < length x.states.items))

-- v is a value of cell k, whose class is c: it lies from the first value of the cell up to the first value of the next one
abbrev pub IsInCell : List Cell → ℕ → ℕ → ℕ → Type 0
IsInCell cells k c v = (x y : Cell) × ((slice_get cells k ≡ Some x) × (slice_get cells (k + 1) ≡ Some y) × (x.class ≡ c) × (x.first ≤ v) × (v < y.first))

-- the group's labels lie in class c
abbrev pub HasClass : List Group → ℕ → ℕ → Type 0
HasClass groups n c = (x : Group) × ((slice_get groups n ≡ Some x) × Contains x.classes.items c)

-- one of the group's labels begins at cell k or is over there
abbrev pub HasBoundary : List Group → ℕ → ℕ → Type 0
HasBoundary groups n k = (x : Group) × ((slice_get groups n ≡ Some x) × Contains x.boundaries.items k)

-- labels that lie in class c lead from state p of automaton i to state q
abbrev pub LeadsBy : Classes → ℕ → ℕ → ℕ → ℕ → Type 0
LeadsBy a i p c q = (l : EdgeGroup) × (IsEdgeGroupOf a.nfas i p l × (l.to ≡ q) × HasClass a.groups l.group c)

-- a label of state p of automaton i begins at cell k or is over there
abbrev pub HasBoundaryAt : Classes → ℕ → ℕ → ℕ → Type 0
HasBoundaryAt a i p k = (l : EdgeGroup) × (IsEdgeGroupOf a.nfas i p l × HasBoundary a.groups l.group k)

-- the range is nonempty, and begins at v or is over there
abbrev pub IsEndOf : Range → ℕ → Type 0
IsEndOf r v = (r.start ≤ r.end) × ((v ≡ r.start) ⊎ (v ≡ r.end + 1))

-- the first value of cell k is v
abbrev pub IsFirstOf : List Cell → ℕ → ℕ → Type 0
IsFirstOf cells k v = IsSomeAnd (slice_get cells k) (λ (x : Cell). x.first ≡ v)

-- the cells ascend, their first values are at most one more than the greatest value, and their classes are below the count
pub record AreCells (cells : List Cell) (count : ℕ) : Type 0 where
  pub rising : (j k : ℕ) (x y : Cell) → slice_get cells j ≡ Some x → slice_get cells k ≡ Some y → j < k → x.first < y.first
  pub within : (k : ℕ) (x : Cell) → slice_get cells k ≡ Some x → (x.first ≤ 4294967296) × (x.class < count)

-- the boundaries of the groups are cells, and their classes are below the count
pub record AreGroups (groups : List Group) (cells : List Cell) (count : ℕ) : Type 0 where
  pub boundaries_in : (n k : ℕ) → HasBoundary groups n k → k < length cells
  pub classes_in : (n c : ℕ) → HasClass groups n c → c < count

-- each edge group has a group, and the cells and classes of the groups are within bounds
pub record IsSound (a : Classes) : Type 0 where
  pub cells : AreCells a.cells a.count
  pub groups : AreGroups a.groups a.cells a.count
  pub groups_in : (i p : ℕ) (l : EdgeGroup) → IsEdgeGroupOf a.nfas i p l → l.group < length a.groups

-- the alphabet of some automata
pub record IsAlphabetOf (ns : List Graph) (a : Classes) : Type 0 where
  pub states : (i p : ℕ) (g : Graph) → slice_get ns i ≡ Some g → p < length g.kinds → HasState a.nfas i p
  -- a value leads where its class leads
  pub leads : (i p q k c v : ℕ) (g : Graph) → slice_get ns i ≡ Some g → p < length g.kinds → IsInCell a.cells k c v
      → ((r : Range) × (Contains g.edges.tests (test p r q) × Covers r v)) ↔ LeadsBy a i p c q
  -- where a label begins or is over, a cell begins
  pub boundaries : (i p v : ℕ) (g : Graph) → slice_get ns i ≡ Some g → p < length g.kinds
      → ((r : Range) × (q : ℕ) × (Contains g.edges.tests (test p r q) × IsEndOf r v)) ↔ ((k : ℕ) × (HasBoundaryAt a i p k × IsFirstOf a.cells k v))
