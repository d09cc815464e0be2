-- Cases of specs/Transitions.antt, of the automata of Cases/Given.antt.
use Rattle.std.proofs.Common.{◌≡◌, ℕ, zero, suc, ◌≤◌, List, [], ◌∷◌, Some, refl, sym, ap, subst, arith}
use Rattle.std.specs.Prelude.{slice_get}
use Rattle.std.specs.List.{Contains}
use Rattle.std.specs.declared.cmp.Ordering.TheVariants.{Less, Equal, Greater}
use Rattle.lalrpop_hir.specs.Range.{Range}
use Rattle.lalrpop_nfa.specs.Graph.{Graph}
use Rattle.lalrpop_nfa.specs.Path.{test}
use Rattle.lalrpop_dfa.specs.Ascending.{Item}
use Rattle.lalrpop_build.specs.Internal.Transitions.{transition_cmp, IsTransition, AreTransitions}
use Rattle.lalrpop_build.specs.declared.transitions.Transition.{Transition}
use Rattle.lalrpop_build.proofs.Cases.Given.{b_to_d, letter, nothing, automata, test_is}

abbrev transition : Item → ℕ → Transition
transition x q = record { item = x; to = q }

-- ---- the order

item_decides : (transition_cmp (transition (0, 3) 4) (transition (1, 0) 2) ≡ Less)
    × (transition_cmp (transition (0, 4) 0) (transition (0, 3) 5) ≡ Greater)
item_decides = (refl, refl)

target_decides_where_the_items_are_equal : (transition_cmp (transition (0, 3) 0) (transition (0, 3) 4) ≡ Less)
    × (transition_cmp (transition (0, 3) 4) (transition (0, 3) 4) ≡ Equal)
target_decides_where_the_items_are_equal = (refl, refl)

-- ---- the edges that a value takes

-- the state before the letter, and ACCEPT of the other automaton
abbrev set : List Item
set = (0, 3) ∷ (1, 0) ∷ []

letter_is_read : IsTransition automata set 98 (0, 3) 0
letter_is_read = (letter, b_to_d, ((0, omega arith, refl), refl, (0, omega arith, refl), (omega arith, omega arith)))

-- the one test edge of the automata
only_edge : (g : Graph) (i p q : ℕ) (r : Range) → slice_get automata i ≡ Some g → Contains g.edges.tests (test p r q)
    → (i ≡ 0) × (p ≡ 3) × (b_to_d ≡ r) × (q ≡ 0)
only_edge g zero p q r e h =
    let same : letter ≡ g = cc in
    let is = test_is p q r (subst (λ (x : Graph). Contains x.edges.tests (test p r q)) (sym same) h) in
    (refl, is.0, is.1, is.2)
only_edge g (suc zero) p q r e h =
    let same : nothing ≡ g = cc in
    let none = subst (λ (x : Graph). Contains x.edges.tests (test p r q)) (sym same) h in
    absurd (omega (arith, none.1))
only_edge g (suc (suc i)) p q r e h = absurd (cc)

-- every one leaves that state, by a value from b to d
only_transition : (s : List Item) (v q : ℕ) (x : Item) → IsTransition automata s v x q
    → (x.0 ≡ 0) × (x.1 ≡ 3) × (q ≡ 0) × (98 ≤ v) × (v ≤ 100)
only_transition s v q x (g, r, (has, at, edge, covers)) =
    let is = only_edge g x.0 x.1 q r at edge in
    let low : 98 ≡ r.start = ap (λ (z : Range). z.start) is.2 in
    let high : 100 ≡ r.end = ap (λ (z : Range). z.end) is.2 in
    (is.0, is.1, is.3, omega (arith, low, covers.0), omega (arith, high, covers.1))

edge_leads_nowhere_else : ¬ IsTransition automata set 98 (0, 3) 1
edge_leads_nowhere_else h = omega (arith, (only_transition set 98 1 (0, 3) h).2)

value_that_no_edge_reads : (x : Item) (q : ℕ) → ¬ IsTransition automata set 122 x q
value_that_no_edge_reads x q h = omega (arith, (only_transition set 122 q x h).4)

-- an item that isn't in the set has no edges
item_outside_the_set : ¬ IsTransition automata ((1, 0) ∷ []) 98 (0, 3) 0
item_outside_the_set (g, r, ((zero, l, e), at, edge, covers)) =
    let n : 1 ≡ 0 = ap (λ (x : Item). x.0) e in omega (arith, n)
item_outside_the_set (g, r, ((suc k, l, e), at, edge, covers)) = omega (arith, l)

-- ---- all of them

abbrev read : Transition
read = transition (0, 3) 0

read_is : (i p q : ℕ) → i ≡ 0 → p ≡ 3 → q ≡ 0 → read ≡ transition (i, p) q
read_is i p q pattern state to = rw (pattern, state, to) refl

transitions_by_b : AreTransitions automata set 98 (read ∷ [])
transitions_by_b l = (listed, taken)
  where
    listed : Contains (read ∷ []) l → IsTransition automata set 98 l.item l.to
    listed (zero, m, e) = subst (λ (z : Transition). IsTransition automata set 98 z.item z.to) e letter_is_read
    listed (suc k, m, e) = absurd (omega (arith, m))

    taken : IsTransition automata set 98 l.item l.to → Contains (read ∷ []) l
    taken h =
        let is = only_transition set 98 l.to l.item h in
        (0, omega arith, read_is l.item.0 l.item.1 l.to is.0 is.1 is.2)

transitions_by_z : AreTransitions automata set 122 []
transitions_by_z l = ((λ h. absurd (omega (arith, h.1))), (λ h. absurd (value_that_no_edge_reads l.item l.to h)))

transition_by_b_is_missing : ¬ AreTransitions automata set 98 []
transition_by_b_is_missing h = let c = (h read).1 letter_is_read in omega (arith, c.1)

transition_by_z_is_none : ¬ AreTransitions automata set 122 (read ∷ [])
transition_by_z_is_none h = value_that_no_edge_reads (0, 3) 0 ((h read).0 (0, omega arith, refl))

transition_to_another_state_is_none : ¬ AreTransitions automata set 98 (read ∷ transition (0, 3) 1 ∷ [])
transition_to_another_state_is_none h = edge_leads_nowhere_else ((h (transition (0, 3) 1)).0 (1, omega arith, refl))
