-- How the edge groups of states are read, list by list.
use Rattle.std.specs.Prelude.{◌≡◌, ℕ, ◌<◌, ◌⊎◌, ◌↔◌, List, [], ◌∷◌, ◌++◌, length, slice_get, Some}
use Rattle.std.specs.List.{Contains}
use Rattle.std.specs.BTreeMap.{get, BTreeMap}
use Rattle.std.specs.Cmp.Lexicographic.{slice_cmp}
use Rattle.std.specs.Ordering.{nat_cmp, ordering_then}
use Rattle.std.specs.declared.cmp.Ordering.{Ordering}
use Rattle.lalrpop_hir.specs.Range.{Range}
use Rattle.lalrpop_nfa.specs.Graph.{Graph}
use Rattle.lalrpop_nfa.specs.Path.{test}
use Rattle.lalrpop_nfa.specs.declared.edge.Edge.{Edge}
use Rattle.lalrpop_build.specs.declared.alphabet.EdgeGroup.{EdgeGroup}
use Rattle.lalrpop_build.specs.declared.alphabet.StateEdgeGroups.{StateEdgeGroups}
use Rattle.lalrpop_build.specs.declared.alphabet.groups.Labels.{Labels}
use Rattle.lalrpop_build.specs.Internal.Grouped.{HasLabel}

-- first by the start, then by the end
abbrev pub range_cmp : Range → Range → Ordering
range_cmp x y = ordering_then (nat_cmp x.start y.start) (nat_cmp x.end y.end)

-- by the first label in which they differ
abbrev pub labels_cmp : Labels → Labels → Ordering
labels_cmp x y = slice_cmp range_cmp x.list.items y.list.items

-- list n has these labels
abbrev pub IsListOf : List Labels → ℕ → List Range → Type 0
IsListOf lists n rs = (ls : Labels) × (slice_get lists n ≡ Some ls) × (ls.list.items ≡ rs)

-- each number is the number of a list with these labels
pub record AreNumbersOf (m : BTreeMap Labels ℕ) (lists : List Labels) : Type 0 where
  pub found : (ls : Labels) (n : ℕ) → get labels_cmp m ls ≡ Some n → IsListOf lists n ls.list.items

-- each list keeps its number
abbrev pub IsGrown : List Labels → List Labels → Type 0
IsGrown old new = (n : ℕ) (ls : Labels) → slice_get old n ≡ Some ls → slice_get new n ≡ Some ls

-- the labels, if there are any, are a list, and the last edge group leads by it to q
abbrev pub IsClosed : List Labels → List EdgeGroup → List Range → ℕ → List Labels → List EdgeGroup → Type 0
IsClosed lists edge_groups rs q lists2 edge_groups2 = ((rs ≡ []) × (lists2 ≡ lists) × (edge_groups2 ≡ edge_groups))
    ⊎ ((n : ℕ) × IsListOf lists2 n rs × IsGrown lists lists2 × (edge_groups2 ≡ edge_groups ++ record { group = n; to = q } ∷ []))

-- the labels became an edge group, unless they lead to q2 too
abbrev pub IsTurned : List Labels → List EdgeGroup → List Range → ℕ → List Labels → List EdgeGroup → List Range → ℕ → Type 0
IsTurned lists edge_groups rs q lists2 edge_groups2 rs2 q2 = ((q2 ≡ q) × (lists2 ≡ lists) × (edge_groups2 ≡ edge_groups) × (rs2 ≡ rs))
    ⊎ (IsClosed lists edge_groups rs q lists2 edge_groups2 × (rs2 ≡ []))

-- one of the edge groups has this label and leads to state q
abbrev pub HasEdgeGroup : List Labels → List EdgeGroup → Range → ℕ → Type 0
HasEdgeGroup lists edge_groups r q = (l : EdgeGroup) × Contains edge_groups l × (l.to ≡ q) × HasLabel lists l.group r

-- the lists of the edge groups exist
abbrev pub AreWithin : List Labels → List EdgeGroup → Type 0
AreWithin lists edge_groups = (l : EdgeGroup) → Contains edge_groups l → l.group < length lists

-- the edge groups of state p, whose automaton has these test edges
pub record AreEdgeGroups (lists : List Labels) (tests : List (Edge Range)) (p : ℕ) (edge_groups : List EdgeGroup) : Type 0 where
  pub within : AreWithin lists edge_groups
  pub labels : (r : Range) (q : ℕ) → Contains tests (test p r q) ↔ HasEdgeGroup lists edge_groups r q

-- the edge groups of each of the first n states of an automaton
pub record AreStatesTo (lists : List Labels) (g : Graph) (n : ℕ) (states : List StateEdgeGroups) : Type 0 where
  pub same_length : length states ≡ n
  pub edge_groups : (p : ℕ) (s : StateEdgeGroups) → slice_get states p ≡ Some s → AreEdgeGroups lists g.edges.tests p s.edge_groups.items
