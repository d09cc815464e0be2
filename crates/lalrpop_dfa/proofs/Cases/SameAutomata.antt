-- Cases of specs/SameAutomata.antt.
use Rattle.std.proofs.Common.{◌≡◌, ℕ, zero, suc, [], ◌∷◌, Some, true, false, refl, sym, ap, subst, ◌∙◌, arith}
use Rattle.std.specs.Prelude.{slice_get}
use Rattle.lalrpop_dfa.specs.Dfa.{Row}
use Rattle.lalrpop_dfa.specs.SameAutomata.{same_kind, same_test, same_state, same_row, same_automaton, IsSameState, IsSameAutomaton}
use Rattle.lalrpop_dfa.specs.declared.Kind.TheVariants.{Accepts, Reject, Neither}
use Rattle.lalrpop_dfa.proofs.Cases.Dfa.{between, automaton_of_a}

-- a reject state
abbrev rejecting : Row
rejecting = record { kind = Reject; tests = []; other = 0; items = [] }

-- the same with a test edge, with an item, and with another other edge
abbrev with_a_test : Row
with_a_test = record rejecting { tests = (between 97 97, 0) ∷ [] }

abbrev with_an_item : Row
with_an_item = record rejecting { items = (0, 1) ∷ [] }

abbrev with_another_edge : Row
with_another_edge = record rejecting { other = 1 }

-- kinds are equal if they are the same kind, and accept the same tree
kinds_that_are_equal : (same_kind (Accepts 1) (Accepts 1) ≡ true) × (same_kind Neither Neither ≡ true)
kinds_that_are_equal = (refl, refl)

kinds_that_are_not_equal : (same_kind (Accepts 1) (Accepts 2) ≡ false) × (same_kind Reject Neither ≡ false)
kinds_that_are_not_equal = (refl, refl)

-- test edges by both ends, and where they lead
test_equals_itself : same_test (between 97 99, 1) (between 97 99, 1) ≡ true
test_equals_itself = refl

tests_that_differ_in_one_part : (same_test (between 97 99, 1) (between 98 99, 1) ≡ false) × (same_test (between 97 99, 1) (between 97 98, 1) ≡ false)
    × (same_test (between 97 99, 1) (between 97 99, 2) ≡ false)
tests_that_differ_in_one_part = (refl, refl, refl)

-- states by kind and other edge: neither tests nor items count
states_that_are_equal : (same_state rejecting with_a_test ≡ true) × (same_state rejecting with_an_item ≡ true)
states_that_are_equal = (refl, refl)

states_that_are_not_equal : same_state rejecting with_another_edge ≡ false
states_that_are_not_equal = refl

-- within automata the test edges count too
rows_with_other_tests_are_not_equal : (same_row rejecting with_a_test ≡ false) × (same_row rejecting with_an_item ≡ true)
rows_with_other_tests_are_not_equal = (refl, refl)

-- automata, by their number of states, and state by state
automata_that_are_equal : (same_automaton automaton_of_a automaton_of_a ≡ true) × (same_automaton (rejecting ∷ []) (with_an_item ∷ []) ≡ true)
automata_that_are_equal = (refl, refl)

automata_that_are_not_equal : (same_automaton (rejecting ∷ []) (with_a_test ∷ []) ≡ false) × (same_automaton (rejecting ∷ []) (rejecting ∷ rejecting ∷ []) ≡ false)
automata_that_are_not_equal = (refl, refl)

-- what equal states and automata agree in
state_agrees_with_itself : (r : Row) → IsSameState r r
state_agrees_with_itself r = record { kind = refl; other = refl }

states_that_do_not_agree : ¬ IsSameState rejecting with_another_edge
states_that_do_not_agree s = let e : 0 ≡ 1 = s.other in omega (arith, e)

automata_that_do_not_agree : (¬ IsSameAutomaton (rejecting ∷ []) []) × (¬ IsSameAutomaton (rejecting ∷ []) (with_a_test ∷ []))
automata_that_do_not_agree = (
  (λ s. let e : 1 ≡ 0 = s.same_length in omega (arith, e)),
  (λ s. let e : [] ≡ (between 97 97, 0) ∷ [] = s.tests 0 rejecting with_a_test refl refl in absurd (cc)),
)

automaton_agrees_with_itself : IsSameAutomaton automaton_of_a automaton_of_a
automaton_agrees_with_itself = record {
  same_length = refl;
  states = λ p r s e f. let g : r ≡ s = cc in subst (IsSameState r) g (state_agrees_with_itself r);
  tests = λ p r s e f. let g : r ≡ s = cc in ap (λ (x : Row). x.tests) g;
}

-- items do not count
automata_with_other_items_agree : IsSameAutomaton (rejecting ∷ []) (with_an_item ∷ [])
automata_with_other_items_agree = record { same_length = refl; states = states; tests = tests }
  where
    states : (p : ℕ) (r s : Row) → slice_get (rejecting ∷ []) p ≡ Some r → slice_get (with_an_item ∷ []) p ≡ Some s → IsSameState r s
    states zero r s e f = let g : rejecting ≡ r = cc in let k : with_an_item ≡ s = cc in record { kind = ap (λ (x : Row). x.kind) (sym g) ∙ ap (λ (x : Row). x.kind) k; other = ap (λ (x : Row). x.other) (sym g) ∙ ap (λ (x : Row). x.other) k }
    states (suc p) r s e f = absurd (cc)

    tests : (p : ℕ) (r s : Row) → slice_get (rejecting ∷ []) p ≡ Some r → slice_get (with_an_item ∷ []) p ≡ Some s → r.tests ≡ s.tests
    tests zero r s e f = let g : rejecting ≡ r = cc in let k : with_an_item ≡ s = cc in ap (λ (x : Row). x.tests) (sym g) ∙ ap (λ (x : Row). x.tests) k
    tests (suc p) r s e f = absurd (cc)

-- an automaton with another other edge does not
automata_with_other_edges_do_not_agree : ¬ IsSameAutomaton (rejecting ∷ []) (with_another_edge ∷ [])
automata_with_other_edges_do_not_agree s = states_that_do_not_agree (s.states 0 rejecting with_another_edge refl refl)
