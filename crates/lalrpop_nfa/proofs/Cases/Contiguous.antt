-- Cases of specs/Contiguous.antt: edges from 2 to 3, from 2 to 4 and from 5 to 6.
use Rattle.std.proofs.Common.{◌≡◌, List, [], ◌∷◌, length, Some, None, refl, ap, ◌∙◌, arith}
use Rattle.lalrpop_nfa.specs.Graph.{Lists}
use Rattle.lalrpop_nfa.specs.Path.{noop}
use Rattle.lalrpop_nfa.specs.StateView.{StateView}
use Rattle.lalrpop_nfa.specs.Firsts.{Noops, Tests}
use Rattle.lalrpop_nfa.specs.Walk.{leaves}
use Rattle.lalrpop_nfa.specs.Contiguous.{walk, walk_at, IsAt, IsContiguous, AreContiguous, kinds_of}
use Rattle.lalrpop_nfa.specs.declared.edge.Edge.{Edge}
use Rattle.lalrpop_nfa.specs.declared.edge.Noop.{Noop}
use Rattle.lalrpop_nfa.specs.declared.edge.StateKind.TheVariants.{Accept, Neither}

abbrev three_edges : List (Edge Noop)
three_edges = noop 2 3 ∷ noop 2 4 ∷ noop 5 6 ∷ []

-- a walk ends before the first edge of another state
walk_ends_at_another_state : walk (leaves 2) three_edges ≡ noop 2 3 ∷ noop 2 4 ∷ []
walk_ends_at_another_state = refl

walk_of_another_state_is_empty : walk (leaves 5) three_edges ≡ []
walk_of_another_state_is_empty = refl

-- from an index on, or without an index
walk_from_an_index : (walk_at 5 three_edges (Some 2) ≡ noop 5 6 ∷ []) × (walk_at 2 three_edges (Some 1) ≡ noop 2 4 ∷ []) × (walk_at 2 three_edges None ≡ [])
walk_from_an_index = (refl, refl, refl)

-- an edge of state 5 is at 2, and no edge of state 2 is
edge_stands_at_an_index : IsAt 5 three_edges (Some 2)
edge_stands_at_an_index = (noop 5 6, [], refl, refl)

other_edge_stands_at_the_index : ¬ IsAt 2 three_edges (Some 2)
other_edge_stands_at_the_index (e, others, h, k) = let n : 5 ≡ 2 = ap (λ (x : Edge Noop). x.from) (first e others h) ∙ k in omega (arith, n)
  where
    first : (e : Edge Noop) (others : List (Edge Noop)) → noop 5 6 ∷ [] ≡ e ∷ others → noop 5 6 ≡ e
    first e others h = cc

-- the edges of state 2 are contiguous, from 0 on
edges_side_by_side : IsContiguous 2 three_edges (Some 0)
edges_side_by_side = record { at = (noop 2 3, noop 2 4 ∷ noop 5 6 ∷ [], refl, refl); all = refl }

-- not from 1 on, and not without an index
edges_from_a_later_index : ¬ IsContiguous 2 three_edges (Some 1)
edges_from_a_later_index r = let n : 2 ≡ 1 = ap length r.all in omega (arith, n)

edges_from_no_index : ¬ IsContiguous 2 three_edges None
edges_from_no_index r = let n : 2 ≡ 0 = ap length r.all in omega (arith, n)

-- nor if an edge of another state is between them
edges_apart : ¬ IsContiguous 2 (noop 2 3 ∷ noop 5 6 ∷ noop 2 4 ∷ []) (Some 0)
edges_apart r = let n : 2 ≡ 1 = ap length r.all in omega (arith, n)

abbrev edges : Lists
edges = record { noops = three_edges; tests = []; others = [] }

-- a state whose edges that read nothing begin at 0
abbrev begins_at_0 : StateView
begins_at_0 = record { kind = Neither; first_noop_edge = Some 0; first_test_edge = None; first_other_edge = None }

-- state 2 is such a one, and has no test edges
edges_of_state_2 : AreContiguous Noops edges begins_at_0 2 × AreContiguous Tests edges begins_at_0 2
edges_of_state_2 = (record { at = (noop 2 3, noop 2 4 ∷ noop 5 6 ∷ [], refl, refl); all = refl }, record { at = tt; all = refl })

-- state 5 isn't
edges_of_state_5 : ¬ AreContiguous Noops edges begins_at_0 5
edges_of_state_5 r = let n : 1 ≡ 0 = ap length r.all in omega (arith, n)

-- the kinds of states, in order
kinds_in_order : kinds_of (begins_at_0 ∷ record begins_at_0 { kind = Accept } ∷ []) ≡ Neither ∷ Accept ∷ []
kinds_in_order = refl
