-- Cases of specs/Given.antt: one automaton reads a letter from b to d, another the empty word.
use Rattle.std.proofs.Common.{◌≡◌, ◌≢◌, ℕ, zero, suc, ◌<◌, ◌≤◌, inl, inr, List, [], ◌∷◌, length, Some, refl, sym, ap, subst, arith}
use Rattle.std.specs.Prelude.{◌↔◌, slice_get}
use Rattle.std.specs.List.{Contains}
use Rattle.lalrpop_hir.specs.Range.{Range, Covers}
use Rattle.lalrpop_hir.specs.Tree.{Tree, class, unicode}
use Rattle.lalrpop_hir.specs.Language.{Matches}
use Rattle.lalrpop_nfa.specs.Graph.{Graph, Lists}
use Rattle.lalrpop_hir.specs.Meet.{Meet}
use Rattle.lalrpop_nfa.specs.Path.{noop, test, other, Path, here, epsilon, read, otherwise}
use Rattle.lalrpop_nfa.specs.Compiled.{IsLabel, IsCompiled, HasFixedEdges}
use Rattle.lalrpop_nfa.specs.declared.edge.Edge.{Edge}
use Rattle.lalrpop_nfa.specs.declared.edge.Noop.{Noop}
use Rattle.lalrpop_nfa.specs.declared.edge.Other.{Other}
use Rattle.lalrpop_nfa.specs.declared.edge.StateKind.TheVariants.{Accept, Reject, Neither}
use Rattle.lalrpop_build.specs.Internal.Given.{AreFixed, AreAutomata, IsItemOf, AreItemsOf}

abbrev pub b_to_d : Range
b_to_d = record { start = 98; end = 100 }

-- START leads to the state before the letter, and the letter to ACCEPT
abbrev pub letter : Graph
letter = record {
  kinds = Accept ∷ Reject ∷ Neither ∷ Neither ∷ [];
  edges = record {
    noops = noop 2 3 ∷ [];
    tests = test 3 b_to_d 0 ∷ [];
    others = other 0 1 ∷ other 1 1 ∷ other 3 1 ∷ [];
  };
}

-- START leads to ACCEPT
abbrev pub nothing : Graph
nothing = record {
  kinds = Accept ∷ Reject ∷ Neither ∷ [];
  edges = record { noops = noop 2 0 ∷ []; tests = []; others = other 0 1 ∷ other 1 1 ∷ [] };
}

abbrev pub automata : List Graph
automata = letter ∷ nothing ∷ []

-- ---- fixed edges

letter_is_fixed : HasFixedEdges letter.edges
letter_is_fixed = record { accept = refl; reject = refl; start = (3, refl) }

automata_are_fixed : AreFixed automata
automata_are_fixed zero g e =
    let same : letter ≡ g = cc in
    subst (λ (h : Graph). HasFixedEdges h.edges) same letter_is_fixed
automata_are_fixed (suc zero) g e =
    let same : nothing ≡ g = cc in
    subst (λ (h : Graph). HasFixedEdges h.edges) same (record { accept = refl; reject = refl; start = (0, refl) })
automata_are_fixed (suc (suc i)) g e = absurd (cc)

-- two edges leave START
abbrev forked : Graph
forked = record nothing { edges = record nothing.edges { noops = noop 2 0 ∷ noop 2 1 ∷ [] } }

second_automaton_is_not_fixed : ¬ AreFixed (letter ∷ forked ∷ [])
second_automaton_is_not_fixed h =
    let n : 2 ≡ 1 = ap (λ (e : Lists). length e.noops) (h 1 forked refl).start.1 in omega (arith, n)

-- ---- the automaton of a class

abbrev letters : Tree
letters = class (unicode (b_to_d ∷ []))

noop_is : (p q : ℕ) → Contains letter.edges.noops (noop p q) → (p ≡ 2) × (q ≡ 3)
noop_is p q (zero, l, e) = (sym (ap (λ (x : Edge Noop). x.from) e), sym (ap (λ (x : Edge Noop). x.to) e))
noop_is p q (suc k, l, e) = absurd (omega (arith, l))

pub test_is : (p q : ℕ) (r : Range) → Contains letter.edges.tests (test p r q) → (p ≡ 3) × (b_to_d ≡ r) × (q ≡ 0)
test_is p q r (zero, l, e) = (sym (ap (λ (x : Edge Range). x.from) e), ap (λ (x : Edge Range). x.label) e, sym (ap (λ (x : Edge Range). x.to) e))
test_is p q r (suc k, l, e) = absurd (omega (arith, l))

other_is : (p q : ℕ) → Contains letter.edges.others (other p q) → (p < 4) × (q ≡ 1)
other_is p q (zero, l, e) = (let f : 0 ≡ p = ap (λ (x : Edge Other). x.from) e in omega (arith, f), sym (ap (λ (x : Edge Other). x.to) e))
other_is p q (suc zero, l, e) = (let f : 1 ≡ p = ap (λ (x : Edge Other). x.from) e in omega (arith, f), sym (ap (λ (x : Edge Other). x.to) e))
other_is p q (suc (suc zero), l, e) = (let f : 3 ≡ p = ap (λ (x : Edge Other). x.from) e in omega (arith, f), sym (ap (λ (x : Edge Other). x.to) e))
other_is p q (suc (suc (suc k)), l, e) = absurd (omega (arith, l))

-- what is read from each state to ACCEPT
record Reading (p : ℕ) (w : List ℕ) : Type 0 where
  accept : p ≡ 0 → w ≡ []
  reject : p ≡ 1 → ⊥
  start : p ≡ 2 → Matches letters w
  before_the_letter : p ≡ 3 → Matches letters w

reading : (p : ℕ) (w : List ℕ) → Path letter.edges 0 p w → Reading p w
reading _ _ (here p e) = record {
  accept = λ _. refl;
  reject = λ h. omega (arith, h, e);
  start = λ h. absurd (omega (arith, h, e));
  before_the_letter = λ h. absurd (omega (arith, h, e));
}
reading _ _ (epsilon p q w m path) =
    let is = noop_is p q m in
    let rest = reading q w path in
    record {
      accept = λ h. absurd (omega (arith, h, is.0));
      reject = λ h. omega (arith, h, is.0);
      start = λ _. rest.before_the_letter is.1;
      before_the_letter = λ h. absurd (omega (arith, h, is.0));
    }
reading _ _ (read p q v r c m k path) =
    let is = test_is p q r m in
    let value : Covers b_to_d c = subst (λ (s : Range). Covers s c) (sym is.1) k in
    let none : v ≡ [] = (reading q v path).accept is.2 in
    record {
      accept = λ h. absurd (omega (arith, h, is.0));
      reject = λ h. omega (arith, h, is.0);
      start = λ h. absurd (omega (arith, h, is.0));
      before_the_letter = λ _. (c, (ap (λ x. c ∷ x) none, inl value));
    }
reading _ _ (otherwise p q v c m u path) =
    let stuck : ⊥ = (reading q v path).reject (other_is p q m).1 in
    absurd stuck

path_of : (w : List ℕ) → Matches letters w → Path letter.edges 0 2 w
path_of w (c, (e, inl k)) =
    let path : Path letter.edges 0 3 (c ∷ []) = read 3 0 [] b_to_d c (0, omega arith, refl) k (here 0 refl) in
    subst (λ v. Path letter.edges 0 2 v) (sym e) (epsilon 2 3 (c ∷ []) (0, omega arith, refl) path)
path_of w (c, (e, inr none)) = absurd none

accepting : (p : ℕ) → slice_get letter.kinds p ≡ Some Accept ↔ (p ≡ 0)
accepting zero = ((λ _. refl), (λ _. refl))
accepting (suc zero) = ((λ h. absurd (cc)), (λ h. absurd (omega arith)))
accepting (suc (suc zero)) = ((λ h. absurd (cc)), (λ h. absurd (omega arith)))
accepting (suc (suc (suc zero))) = ((λ h. absurd (cc)), (λ h. absurd (omega arith)))
accepting (suc (suc (suc (suc p)))) = ((λ h. absurd (cc)), (λ h. absurd (omega arith)))

rejecting : (p : ℕ) → slice_get letter.kinds p ≡ Some Reject ↔ (p ≡ 1)
rejecting zero = ((λ h. absurd (cc)), (λ h. absurd (omega arith)))
rejecting (suc zero) = ((λ _. refl), (λ _. refl))
rejecting (suc (suc zero)) = ((λ h. absurd (cc)), (λ h. absurd (omega arith)))
rejecting (suc (suc (suc zero))) = ((λ h. absurd (cc)), (λ h. absurd (omega arith)))
rejecting (suc (suc (suc (suc p)))) = ((λ h. absurd (cc)), (λ h. absurd (omega arith)))

label_is : (e : Edge Range) → Contains letter.edges.tests e
    → IsLabel letters e.label × (e.label.start ≤ e.label.end) × (e.label.end ≤ 1114111)
label_is e h =
    subst (λ (r : Range). IsLabel letters r × (r.start ≤ r.end) × (r.end ≤ 1114111)) (test_is e.from e.to e.label h).1
    ((0, omega arith, refl), omega arith, omega arith)

-- test edges are apart, as there is only one
one_edge_by_place : (i j : ℕ) (e f : Edge Range) → slice_get letter.edges.tests i ≡ Some e
    → slice_get letter.edges.tests j ≡ Some f → i ≢ j → e.from ≡ f.from → ¬ Meet e.label f.label
one_edge_by_place zero zero e f h g n same m = n refl
one_edge_by_place zero (suc j) e f h g n same m = absurd (cc)
one_edge_by_place (suc i) j e f h g n same m = absurd (cc)

letter_is_compiled : IsCompiled letters letter
letter_is_compiled = record {
  reads = λ w. ((λ path. (reading 2 w path).start refl), path_of w);
  few = omega arith;
  start_in = omega arith;
  accepting = accepting;
  rejecting = rejecting;
  noops_in = λ e h. let is = noop_is e.from e.to h in (omega (arith, is.0), omega (arith, is.1), λ f. omega (arith, is.0, f));
  tests_in = λ e h. let is = test_is e.from e.to e.label h in (omega (arith, is.0), omega (arith, is.2), (λ f. omega (arith, is.0, f)), (λ f. omega (arith, is.2, f)));
  others_in = λ e h. let is = other_is e.from e.to h in (is.0, is.1);
  labels = label_is;
  apart = one_edge_by_place;
}

-- ---- automata of trees

no_trees_have_no_automata : AreAutomata []
no_trees_have_no_automata = ([], record { same_length = refl; each = λ i t g e f. absurd (cc) }, λ i g e. absurd (cc))

class_has_its_automaton : AreAutomata (letter ∷ [])
class_has_its_automaton = (letters ∷ [], record { same_length = refl; each = each }, fixed)
  where
    each : (i : ℕ) (t : Tree) (g : Graph) → slice_get (letters ∷ []) i ≡ Some t → slice_get (letter ∷ []) i ≡ Some g
        → IsCompiled t g
    each zero t g e f =
        let tree : letters ≡ t = cc in
        let graph : letter ≡ g = cc in
        subst (λ r. IsCompiled r g) tree (subst (λ h. IsCompiled letters h) graph letter_is_compiled)
    each (suc i) t g e f = absurd (cc)

    fixed : AreFixed (letter ∷ [])
    fixed zero g e = let same : letter ≡ g = cc in subst (λ (h : Graph). HasFixedEdges h.edges) same letter_is_fixed
    fixed (suc i) g e = absurd (cc)

forked_start_is_of_no_tree : ¬ AreAutomata (letter ∷ forked ∷ [])
forked_start_is_of_no_tree h = second_automaton_is_not_fixed h.2

edges_without_states_are_of_no_tree : ¬ AreAutomata (record letter { kinds = [] } ∷ [])
edges_without_states_are_of_no_tree ([], compiled, fixed) = omega (arith, compiled.same_length)
edges_without_states_are_of_no_tree (t ∷ ts, compiled, fixed) =
    omega (arith, (compiled.each 0 t (record letter { kinds = [] }) refl refl).start_in)

-- ---- items

states_are_items : IsItemOf automata (0, 3) × IsItemOf automata (1, 2)
states_are_items = ((letter, (refl, omega arith)), (nothing, (refl, omega arith)))

-- the second automaton has three states
state_of_the_other_automaton_is_no_item : ¬ IsItemOf automata (1, 3)
state_of_the_other_automaton_is_no_item (g, (e, l)) =
    let same : nothing ≡ g = cc in
    let n : 3 ≡ length g.kinds = ap (λ (h : Graph). length h.kinds) same in
    omega (arith, n, l)

there_is_no_third_automaton : ¬ IsItemOf automata (2, 0)
there_is_no_third_automaton (g, (e, l)) = absurd (cc)

each_is_an_item : AreItemsOf automata ((0, 3) ∷ (1, 2) ∷ [])
each_is_an_item x (zero, l, e) = subst (λ y. IsItemOf automata y) e states_are_items.0
each_is_an_item x (suc zero, l, e) = subst (λ y. IsItemOf automata y) e states_are_items.1
each_is_an_item x (suc (suc k), l, e) = absurd (omega (arith, l))

last_is_no_item : ¬ AreItemsOf automata ((0, 3) ∷ (1, 3) ∷ [])
last_is_no_item h = state_of_the_other_automaton_is_no_item (h (1, 3) (1, omega arith, refl))
