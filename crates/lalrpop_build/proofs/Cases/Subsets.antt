-- Cases of specs/Subsets.antt, of the automata of Cases/Given.antt.
use Rattle.std.proofs.Common.{◌≡◌, [], ◌∷◌, true, false, refl}
use Rattle.lalrpop_nfa.specs.Graph.{Graph}
use Rattle.lalrpop_nfa.specs.Path.{noop, test, other}
use Rattle.lalrpop_nfa.specs.declared.edge.StateKind.TheVariants.{Accept, Reject, Neither}
use Rattle.lalrpop_build.specs.Internal.Subsets.{no_graph, graph_at, has_noop, joins, is_epsilon_path, items_below, items_from, all_items, follows_by_epsilon, closed, test_targets, default_targets, or_instead, targets, item_targets, move, starts_from, first_set_of, is_dead}
use Rattle.lalrpop_build.proofs.Cases.Given.{b_to_d, letter, nothing, automata}

-- ---- automata by their places

automaton_at_a_place : (graph_at automata 1 ≡ nothing) × (graph_at automata 2 ≡ no_graph)
automaton_at_a_place = (refl, refl)

-- ---- what leads on by reading nothing

edge_leads_one_way : (has_noop letter 2 3 ≡ true) × (has_noop letter 3 2 ≡ false)
edge_leads_one_way = (refl, refl)

edge_that_reads_is_none : has_noop letter 3 0 ≡ false
edge_that_reads_is_none = refl

-- START leads to 3, and 3 to ACCEPT
abbrev chain : Graph
chain = record {
  kinds = Accept ∷ Reject ∷ Neither ∷ Neither ∷ [];
  edges = record { noops = noop 2 3 ∷ noop 3 0 ∷ []; tests = []; others = [] };
}

-- by way of 3, which has to be allowed
way_of_a_state : (joins chain 4 2 0 ≡ true) × (joins chain 3 2 0 ≡ false)
unfolding joins
way_of_a_state = (refl, refl)

start_leads_to_accept : is_epsilon_path chain 2 0 ≡ true
unfolding is_epsilon_path joins
start_leads_to_accept = refl

state_leads_to_itself : is_epsilon_path chain 1 1 ≡ true
unfolding is_epsilon_path joins
state_leads_to_itself = refl

accept_does_not_lead_back : is_epsilon_path chain 0 2 ≡ false
unfolding is_epsilon_path joins
accept_does_not_lead_back = refl

letter_has_to_be_read : is_epsilon_path letter 2 0 ≡ false
unfolding is_epsilon_path joins
letter_has_to_be_read = refl

-- ---- items

items_of_a_place : items_below 5 2 ≡ (5, 0) ∷ (5, 1) ∷ []
items_of_a_place = refl

items_from_a_place : items_from 1 (nothing ∷ []) ≡ (1, 0) ∷ (1, 1) ∷ (1, 2) ∷ []
items_from_a_place = refl

items_of_both : all_items automata ≡ (0, 0) ∷ (0, 1) ∷ (0, 2) ∷ (0, 3) ∷ (1, 0) ∷ (1, 1) ∷ (1, 2) ∷ []
unfolding all_items
items_of_both = refl

-- START of the first leads to the state before the letter
item_follows : follows_by_epsilon automata (0, 2) (0, 3) ≡ true
unfolding follows_by_epsilon is_epsilon_path joins
item_follows = refl

item_of_the_other_automaton_does_not_follow : follows_by_epsilon automata (0, 2) (1, 0) ≡ false
unfolding follows_by_epsilon is_epsilon_path joins
item_of_the_other_automaton_does_not_follow = refl

-- ascending, in whatever order the items are given
items_that_are_led_to : closed automata ((1, 2) ∷ (0, 2) ∷ []) ≡ (0, 2) ∷ (0, 3) ∷ (1, 0) ∷ (1, 2) ∷ []
unfolding closed all_items follows_by_epsilon is_epsilon_path joins
items_that_are_led_to = refl

accept_leads_to_itself_alone : closed automata ((0, 0) ∷ []) ≡ (0, 0) ∷ []
unfolding closed all_items follows_by_epsilon is_epsilon_path joins
accept_leads_to_itself_alone = refl

-- ---- where a value leads

-- b and d are the ends of the label, a and e are outside
test_edge_covers_its_label : (test_targets letter 3 98 ≡ 0 ∷ []) × (test_targets letter 3 100 ≡ 0 ∷ [])
test_edge_covers_its_label = (refl, refl)

test_edge_covers_no_other_value : (test_targets letter 3 97 ≡ []) × (test_targets letter 3 101 ≡ [])
test_edge_covers_no_other_value = (refl, refl)

no_test_edge_leaves_start : test_targets letter 2 98 ≡ []
no_test_edge_leaves_start = refl

other_edges_lead_to_reject : (default_targets letter 3 ≡ 1 ∷ []) × (default_targets letter 2 ≡ [])
other_edges_lead_to_reject = (refl, refl)

second_list_where_the_first_is_empty : (or_instead (0 ∷ 3 ∷ []) (1 ∷ []) ≡ 0 ∷ 3 ∷ [])
    × (or_instead [] (1 ∷ []) ≡ 1 ∷ [])
second_list_where_the_first_is_empty = (refl, refl)

-- b leads to ACCEPT and not to REJECT, z to REJECT
state_leads_by_a_value : (targets letter 3 98 ≡ 0 ∷ []) × (targets letter 3 122 ≡ 1 ∷ [])
state_leads_by_a_value = (refl, refl)

item_leads_within_its_automaton : item_targets automata 98 (1, 0) ≡ (1, 1) ∷ []
unfolding item_targets
item_leads_within_its_automaton = refl

-- ---- sets

starts_of_both : starts_from 0 automata ≡ (0, 2) ∷ (1, 2) ∷ []
starts_of_both = refl

empty_word_leads_to : first_set_of automata ≡ (0, 2) ∷ (0, 3) ∷ (1, 0) ∷ (1, 2) ∷ []
unfolding first_set_of closed all_items follows_by_epsilon is_epsilon_path joins
empty_word_leads_to = refl

-- the letter is read, and the empty word has failed
move_by_b : move automata ((0, 2) ∷ (0, 3) ∷ (1, 0) ∷ (1, 2) ∷ []) 98 ≡ (0, 0) ∷ (1, 1) ∷ []
unfolding move item_targets closed all_items follows_by_epsilon is_epsilon_path joins
move_by_b = refl

-- both have failed
move_by_z : move automata ((0, 2) ∷ (0, 3) ∷ (1, 0) ∷ (1, 2) ∷ []) 122 ≡ (0, 1) ∷ (1, 1) ∷ []
unfolding move item_targets closed all_items follows_by_epsilon is_epsilon_path joins
move_by_z = refl

-- the letter leads to 4, and 4 to ACCEPT
abbrev letter_then_chain : Graph
letter_then_chain = record {
  kinds = Accept ∷ Reject ∷ Neither ∷ Neither ∷ Neither ∷ [];
  edges = record { noops = noop 2 3 ∷ noop 4 0 ∷ []; tests = test 3 b_to_d 4 ∷ []; others = other 3 1 ∷ [] };
}

-- what the value leads to leads on by reading nothing
move_goes_on_by_reading_nothing : move (letter_then_chain ∷ []) ((0, 3) ∷ []) 98 ≡ (0, 0) ∷ (0, 4) ∷ []
unfolding move item_targets closed all_items follows_by_epsilon is_epsilon_path joins
move_goes_on_by_reading_nothing = refl

set_where_all_have_failed : is_dead ((0, 1) ∷ (1, 1) ∷ []) ≡ true
set_where_all_have_failed = refl

set_where_one_is_left : is_dead ((0, 0) ∷ (1, 1) ∷ []) ≡ false
set_where_one_is_left = refl

empty_set_is_dead : is_dead [] ≡ true
empty_set_is_dead = refl
