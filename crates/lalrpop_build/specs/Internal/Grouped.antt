-- The labels that leave the states of automata, in numbered lists.
use Rattle.std.specs.Prelude.{◌≡◌, ℕ, ◌<◌, ◌≤◌, ◌↔◌, List, length, slice_get, Some}
use Rattle.std.specs.List.{Contains}
use Rattle.lalrpop_hir.specs.Range.{Range, Covers}
use Rattle.lalrpop_nfa.specs.Graph.{Graph}
use Rattle.lalrpop_nfa.specs.Path.{test}
use Rattle.lalrpop_build.specs.declared.alphabet.Cell.{Cell}
use Rattle.lalrpop_build.specs.declared.alphabet.Group.{Group}
use Rattle.lalrpop_build.specs.declared.alphabet.EdgeGroup.{EdgeGroup}
use Rattle.lalrpop_build.specs.declared.alphabet.NfaEdgeGroups.{NfaEdgeGroups}
use Rattle.lalrpop_build.specs.declared.alphabet.groups.Labels.{Labels}
use Rattle.lalrpop_build.specs.Internal.Alphabet.{IsEdgeGroupOf, IsEndOf, IsInCell, IsFirstOf, HasClass, HasBoundary}

-- the labels of list n lead from state p of automaton i to state q
abbrev pub LeadsTo : List NfaEdgeGroups → ℕ → ℕ → ℕ → ℕ → Type 0
LeadsTo nfas i p n q = (l : EdgeGroup) × (IsEdgeGroupOf nfas i p l × (l.group ≡ n) × (l.to ≡ q))

-- the label is in list n
abbrev pub HasLabel : List Labels → ℕ → Range → Type 0
HasLabel lists n r = (ls : Labels) × ((slice_get lists n ≡ Some ls) × Contains ls.list.items r)

-- the labels of each state of each automaton, in lists of labels that lead to one state
pub record AreGrouped (ns : List Graph) (lists : List Labels) (nfas : List NfaEdgeGroups) : Type 0 where
  pub automata : length nfas ≡ length ns
  pub states : (i : ℕ) (g : Graph) → slice_get ns i ≡ Some g → (x : NfaEdgeGroups) × ((slice_get nfas i ≡ Some x) × (length x.states.items ≡ length g.kinds))
  pub lists_in : (i p n q : ℕ) → LeadsTo nfas i p n q → n < length lists
  pub labels : (i p q : ℕ) (r : Range) (g : Graph) → slice_get ns i ≡ Some g → p < length g.kinds
      → Contains g.edges.tests (test p r q) ↔ ((n : ℕ) × (LeadsTo nfas i p n q × HasLabel lists n r))

-- the boundaries ascend, and each value at which a label of some list begins or is over is one of them
pub record AreBoundaries (lists : List Labels) (boundaries : List ℕ) : Type 0 where
  pub rising : (j k u v : ℕ) → slice_get boundaries j ≡ Some u → slice_get boundaries k ≡ Some v → j < k → u < v
  pub within : (v : ℕ) → Contains boundaries v → v ≤ 4294967296
  pub all : (n v : ℕ) (r : Range) → HasLabel lists n r → IsEndOf r v → Contains boundaries v

-- the cells begin at the boundaries; each list has its boundaries, and the classes of its values
pub record AreClasses (lists : List Labels) (cells : List Cell) (groups : List Group) : Type 0 where
  pub same_length : length groups ≡ length lists
  pub covers : (n k c v : ℕ) → n < length lists → IsInCell cells k c v
      → ((r : Range) × (HasLabel lists n r × Covers r v)) ↔ HasClass groups n c
  pub boundaries : (n v : ℕ) → n < length lists
      → ((r : Range) × (HasLabel lists n r × IsEndOf r v)) ↔ ((k : ℕ) × (HasBoundary groups n k × IsFirstOf cells k v))
