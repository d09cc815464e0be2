-- cases: proofs/Cases/Transitions.antt
-- The test edges that a value takes from a set of items.
use Rattle.std.specs.Prelude.{◌≡◌, ℕ, ◌↔◌, List, slice_get, Some}
use Rattle.std.specs.List.{Contains}
use Rattle.std.specs.Ordering.{nat_cmp, ordering_then}
use Rattle.std.specs.declared.cmp.Ordering.{Ordering}
use Rattle.lalrpop_hir.specs.Range.{Range, Covers}
use Rattle.lalrpop_nfa.specs.Graph.{Graph}
use Rattle.lalrpop_nfa.specs.Path.{test}
use Rattle.lalrpop_dfa.specs.Ascending.{Item, item_cmp}
use Rattle.lalrpop_build.specs.declared.transitions.Transition.{Transition}

-- first by the item, then by the state that the edge leads to
abbrev pub transition_cmp : Transition → Transition → Ordering
transition_cmp x y = ordering_then (item_cmp x.item y.item) (nat_cmp x.to y.to)

-- a test edge whose label contains v leads from the item x of the set to the state q
abbrev pub IsTransition : List Graph → List Item → ℕ → Item → ℕ → Type 0
IsTransition ns s v x q = (g : Graph) × (r : Range) × (Contains s x × (slice_get ns x.0 ≡ Some g) × Contains g.edges.tests (test x.1 r q) × Covers r v)

-- the edges are these, and no others
abbrev pub AreTransitions : List Graph → List Item → ℕ → List Transition → Type 0
AreTransitions ns s v leads = (l : Transition) → Contains leads l ↔ IsTransition ns s v l.item l.to
