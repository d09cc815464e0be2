-- Cases of specs/Compiled.antt: the automaton of the literal `a`.
use Rattle.std.proofs.Common.{◌≡◌, ◌≢◌, ℕ, zero, suc, ◌≤◌, List, [], ◌∷◌, length, get_or, true, None, Some, refl, sym, ap, subst, arith}
use Rattle.std.specs.Prelude.{◌↔◌, slice_get}
use Rattle.std.specs.List.{Contains}
use Rattle.lalrpop_hir.specs.Range.{Range}
use Rattle.lalrpop_hir.specs.Tree.{Tree, unicode, empty, literal, repetition}
use Rattle.lalrpop_nfa.specs.Graph.{Graph, Lists}
use Rattle.lalrpop_hir.specs.Meet.{Meet}
use Rattle.lalrpop_nfa.specs.Path.{noop, test, other, Path}
use Rattle.lalrpop_nfa.specs.Compiled.{IsClassLabel, IsLabel, ReadsWordsOf, IsCompiled, edges_from, HasFixedEdges}
use Rattle.lalrpop_nfa.specs.declared.edge.Edge.{Edge}
use Rattle.lalrpop_nfa.specs.declared.edge.StateKind.TheVariants.{Accept, Reject, Neither}
use Rattle.lalrpop_nfa.proofs.Cases.Path.{just_a, edges_of_a, noop_is, test_is, other_is, path_of_a, path_reads_a_alone}

abbrev a : Tree
a = literal (97 ∷ [])

abbrev graph_of_a : Graph
graph_of_a = record { kinds = Accept ∷ Reject ∷ Neither ∷ Neither ∷ []; edges = edges_of_a }

-- ---- labels

-- a-c and x-z
abbrev two_ranges : List Range
two_ranges = record { start = 97; end = 99 } ∷ record { start = 120; end = 122 } ∷ []

-- a label of a class is one of its ranges, not a part of one
range_of_a_class : IsClassLabel (unicode two_ranges) (record { start = 120; end = 122 })
range_of_a_class = (1, omega arith, refl)

part_of_a_range_is_no_label : ¬ IsClassLabel (unicode two_ranges) just_a
part_of_a_range_is_no_label (zero, l, e) = let n : 99 ≡ 97 = ap (λ (r : Range). r.end) e in omega (arith, n)
part_of_a_range_is_no_label (suc zero, l, e) = let n : 122 ≡ 97 = ap (λ (r : Range). r.end) e in omega (arith, n)
part_of_a_range_is_no_label (suc (suc k), l, e) = omega arith

-- a label of a literal is one of its characters, also inside a repetition
character_of_a_literal : IsLabel (repetition 0 None true (literal (98 ∷ 97 ∷ []))) just_a
character_of_a_literal = (97, ((1, omega arith, refl), refl))

empty_tree_has_no_label : (r : Range) → ¬ IsLabel empty r
empty_tree_has_no_label r h = h

-- ---- words

-- the automaton reads the words of `a` and of no other tree
reads_the_words_of_a : ReadsWordsOf a graph_of_a
reads_the_words_of_a w = (path_reads_a_alone w, λ e. subst (λ v. Path edges_of_a 0 2 v) (sym e) path_of_a)

does_not_read_the_words_of_b : ¬ ReadsWordsOf (literal (98 ∷ [])) graph_of_a
does_not_read_the_words_of_b r = let n : 97 ≡ 98 = ap (λ u. get_or u 0 0) ((r (97 ∷ [])).0 path_of_a) in omega (arith, n)

does_not_read_the_empty_word : ¬ ReadsWordsOf empty graph_of_a
does_not_read_the_empty_word r = let n : 1 ≡ 0 = ap length ((r (97 ∷ [])).0 path_of_a) in omega (arith, n)

-- ---- all that holds

accepting : (p : ℕ) → slice_get graph_of_a.kinds p ≡ Some Accept ↔ (p ≡ 0)
accepting zero = ((λ _. refl), (λ _. refl))
accepting (suc zero) = ((λ h. absurd (cc)), (λ h. absurd (omega arith)))
accepting (suc (suc zero)) = ((λ h. absurd (cc)), (λ h. absurd (omega arith)))
accepting (suc (suc (suc zero))) = ((λ h. absurd (cc)), (λ h. absurd (omega arith)))
accepting (suc (suc (suc (suc p)))) = ((λ h. absurd (cc)), (λ h. absurd (omega arith)))

rejecting : (p : ℕ) → slice_get graph_of_a.kinds p ≡ Some Reject ↔ (p ≡ 1)
rejecting zero = ((λ h. absurd (cc)), (λ h. absurd (omega arith)))
rejecting (suc zero) = ((λ _. refl), (λ _. refl))
rejecting (suc (suc zero)) = ((λ h. absurd (cc)), (λ h. absurd (omega arith)))
rejecting (suc (suc (suc zero))) = ((λ h. absurd (cc)), (λ h. absurd (omega arith)))
rejecting (suc (suc (suc (suc p)))) = ((λ h. absurd (cc)), (λ h. absurd (omega arith)))

label_of_a : (e : Edge Range) → Contains graph_of_a.edges.tests e → IsLabel a e.label × (e.label.start ≤ e.label.end) × (e.label.end ≤ 1114111)
label_of_a e h =
    let is = (test_is e.from e.to e.label h).2 in
    subst (λ r. IsLabel a r × (r.start ≤ r.end) × (r.end ≤ 1114111)) (sym is)
    ((97, ((0, omega arith, refl), refl)), omega arith, omega arith)

-- test edges are apart, as there is only one
one_edge_by_place : (i j : ℕ) (e f : Edge Range) → slice_get graph_of_a.edges.tests i ≡ Some e → slice_get graph_of_a.edges.tests j ≡ Some f → i ≢ j → e.from ≡ f.from → ¬ Meet e.label f.label
one_edge_by_place zero zero e f h g n same m = n refl
one_edge_by_place zero (suc j) e f h g n same m = absurd (cc)
one_edge_by_place (suc i) j e f h g n same m = absurd (cc)

-- the automaton is compiled from `a`
pub automaton_is_compiled_from_a : IsCompiled a graph_of_a
automaton_is_compiled_from_a = record {
  reads = reads_the_words_of_a;
  few = omega arith;
  start_in = omega arith;
  accepting = accepting;
  rejecting = rejecting;
  noops_in = λ e h. let is = noop_is e.from e.to h in (omega (arith, is.0), omega (arith, is.1), λ f. omega (arith, is.0, f));
  tests_in = λ e h. let is = test_is e.from e.to e.label h in (omega (arith, is.0), omega (arith, is.1), (λ f. omega (arith, is.0, f)), (λ f. omega (arith, is.1, f)));
  others_in = λ e h. let is = other_is e.from e.to h in (is.0, is.1);
  labels = label_of_a;
  apart = one_edge_by_place;
}

-- not from the empty tree, and not from `b`
automaton_is_not_compiled_from_the_empty_tree : ¬ IsCompiled empty graph_of_a
automaton_is_not_compiled_from_the_empty_tree c = does_not_read_the_empty_word c.reads

automaton_is_not_compiled_from_b : ¬ IsCompiled (literal (98 ∷ [])) graph_of_a
automaton_is_not_compiled_from_b c = does_not_read_the_words_of_b c.reads

-- ---- the edges that leave ACCEPT, REJECT and START

-- state 3 has a test edge and an other edge
edges_before_the_letter : edges_from 3 edges_of_a ≡ record { noops = []; tests = test 3 just_a 0 ∷ []; others = other 3 1 ∷ [] }
edges_before_the_letter = refl

edges_of_the_fixed_states : HasFixedEdges edges_of_a
edges_of_the_fixed_states = record { accept = refl; reject = refl; start = (3, refl) }

-- without edges, or with a second one at START, they aren't fixed
no_edges_are_not_fixed : ¬ HasFixedEdges (record { noops = []; tests = []; others = [] })
no_edges_are_not_fixed h = let n : 0 ≡ 1 = ap (λ (e : Lists). length e.others) h.accept in omega (arith, n)

two_edges_at_start_are_not_fixed : ¬ HasFixedEdges (record edges_of_a { noops = noop 2 3 ∷ noop 2 4 ∷ [] })
two_edges_at_start_are_not_fixed h = let n : 2 ≡ 1 = ap (λ (e : Lists). length e.noops) h.start.1 in omega (arith, n)
