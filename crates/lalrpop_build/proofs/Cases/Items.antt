-- Cases of specs/Items.antt: the automaton of the literal `a`, and those of other lists of trees.
use Rattle.std.proofs.Common.{◌≡◌, ◌≢◌, ℕ, zero, suc, ◌<◌, ◌⊎◌, inl, inr, List, [], ◌∷◌, length, Some, None, refl, sym, ap, subst, ◌∙◌, arith}
use Rattle.std.specs.Prelude.{◌↔◌, map, slice_get}
use Rattle.std.specs.List.{Contains}
use Rattle.std.proofs.lemmas.Bool.{lt-leb}
use Rattle.lalrpop_hir.specs.Word.{IsWord, FirstDifferenceLess, Shortlex}
use Rattle.lalrpop_hir.specs.Range.{Range, Covers}
use Rattle.lalrpop_hir.specs.Tree.{Tree, empty, literal, class, unicode, alternation, none, also}
use Rattle.lalrpop_nfa.specs.Graph.{Graph, Lists}
use Rattle.lalrpop_nfa.specs.Path.{IsUntested, Path, here, epsilon, read, otherwise, noop, test, other}
use Rattle.lalrpop_nfa.specs.Compiled.{IsLabel, IsCompiled}
use Rattle.lalrpop_nfa.specs.declared.edge.Edge.{Edge}
use Rattle.lalrpop_nfa.specs.declared.edge.Noop.{Noop}
use Rattle.lalrpop_nfa.specs.declared.edge.Other.{Other}
use Rattle.lalrpop_nfa.specs.declared.edge.StateKind.TheVariants.{Accept, Reject as RejectState, Neither as NeitherState}
use Rattle.lalrpop_nfa.specs.Partition.{IsPartition}
use Rattle.lalrpop_dfa.specs.Dfa.{Row, after, run, step}
use Rattle.lalrpop_nfa.specs.Automata.{AreCompiled}
use Rattle.lalrpop_dfa.specs.Ascending.{Item}
use Rattle.lalrpop_build.specs.Items.{IsReached, IsLeaving, HoldsItems, OthersReject, IsInWordOrder}
use Rattle.lalrpop_dfa.specs.declared.Kind.TheVariants.{Accepts, Reject, Neither}
use Rattle.lalrpop_dfa.proofs.Cases.Dfa.{between, automaton_of_a}

-- the automaton of one tree, the literal `a`
abbrev graph_of_a : Graph
graph_of_a = record {
  kinds = Accept ∷ RejectState ∷ NeitherState ∷ NeitherState ∷ [];
  edges = record { noops = noop 2 3 ∷ []; tests = test 3 (between 97 97) 0 ∷ []; others = [] };
}

-- ---- items

-- the empty word leads from START to the state before the letter
before_the_letter_is_reached : IsReached (graph_of_a ∷ []) [] (0, 3)
before_the_letter_is_reached = (graph_of_a, (refl, epsilon 2 3 [] (0, omega arith, refl) (here 3 refl)))

-- and not to any state of a second automaton, which isn't there
state_of_no_automaton_is_not_reached : (w : List ℕ) (p : ℕ) → ¬ IsReached (graph_of_a ∷ []) w (1, p)
state_of_no_automaton_is_not_reached w p (g, (e, path)) = absurd (cc)

-- the label of `a` leaves the state before the letter, and no label leaves START
label_leaves_the_state_before_it : IsLeaving (graph_of_a ∷ []) ((0, 3) ∷ []) (between 97 97)
label_leaves_the_state_before_it = ((0, 3), graph_of_a, 0, ((0, omega arith, refl), refl, (0, omega arith, refl)))

no_label_leaves_no_items : (r : Range) → ¬ IsLeaving (graph_of_a ∷ []) [] r
no_label_leaves_no_items r h = omega (arith, h.3.0.1)

-- ---- what the automata of lists hold

-- a tree must have its automaton
missing_automaton_is_not_compiled : ¬ AreCompiled (literal (97 ∷ []) ∷ []) []
missing_automaton_is_not_compiled c = omega (arith, c.same_length)

no_trees_have_no_automata : AreCompiled [] []
no_trees_have_no_automata = record { same_length = refl; each = λ i t g e f. absurd (cc) }

-- one reject state, which holds nothing
abbrev automaton_of_nothing : List Row
automaton_of_nothing = record { kind = Reject; tests = []; other = 0; items = [] } ∷ []

-- it is the automaton of no trees
automaton_of_nothing_holds_nothing : HoldsItems [] automaton_of_nothing
automaton_of_nothing_holds_nothing = record {
  reached = λ p l. ([], search (arith, is_first p l));
  items = λ w r x e. ((λ h. absurd (holds_none w r x e h)), (λ h. absurd (reaches_none w x h)));
  labels = labels;
  distinct = distinct;
  rejects = rejects;
}
  where
    is_first : (p : ℕ) → p < 1 → 0 ≡ p
    is_first p l = omega arith

    items_of : (p : ℕ) (r : Row) → slice_get automaton_of_nothing p ≡ Some r → [] ≡ r.items
    items_of zero r e = cc
    items_of (suc p) r e = absurd (cc)

    tests_of : (p : ℕ) (r : Row) → slice_get automaton_of_nothing p ≡ Some r → [] ≡ r.tests
    tests_of zero r e = cc
    tests_of (suc p) r e = absurd (cc)

    in_none : (r : Row) (x : Item) → [] ≡ r.items → ¬ Contains r.items x
    in_none r x e h = let g = subst (λ xs. Contains xs x) (sym e) h in omega (arith, g.1)

    holds_none : (w : List ℕ) (r : Row) (x : Item) → slice_get automaton_of_nothing (after automaton_of_nothing w) ≡ Some r → ¬ Contains r.items x
    holds_none w r x e = in_none r x (items_of (after automaton_of_nothing w) r e)

    reaches_none : (w : List ℕ) (x : Item) → ¬ IsReached [] w x
    reaches_none w x h = let e : None ≡ Some h.0 = h.1.0 in absurd (cc)

    labels : (p : ℕ) (r : Row) → slice_get automaton_of_nothing p ≡ Some r → IsPartition (IsLeaving [] r.items) (map (λ t. t.0) r.tests)
    labels p r e = subst (λ ts. IsPartition (IsLeaving [] r.items) (map (λ t. t.0) ts)) (tests_of p r e) (record {
      ascending = tt;
      are_blocks = λ x h. absurd (omega (arith, h.1));
      all_blocks = λ x run. let held = run.uniform.covered x.start (omega arith, run.uniform.holds_one) in absurd (in_none r held.1.0.0 (items_of p r e) held.1.0.3.0);
    })

    distinct : (p q : ℕ) (r s : Row) → slice_get automaton_of_nothing p ≡ Some r → slice_get automaton_of_nothing q ≡ Some s → ((x : Item) → Contains r.items x ↔ Contains s.items x) → p ≡ q
    distinct zero zero r s e f h = refl
    distinct zero (suc q) r s e f h = absurd (cc)
    distinct (suc p) q r s e f h = absurd (cc)

    rejects : (p : ℕ) (r : Row) → slice_get automaton_of_nothing p ≡ Some r → (r.kind ≡ Reject) ↔ ((x : Item) → Contains r.items x → x.1 ≡ 1)
    rejects zero r e = ((λ k x h. absurd (in_none r x (items_of zero r e) h)), (λ h. cc))
    rejects (suc p) r e = absurd (cc)

-- ---- one tree, the empty one

-- its edges: START leads to ACCEPT, and any value to REJECT
abbrev edges_of_empty : Lists
edges_of_empty = record { noops = noop 2 0 ∷ []; tests = []; others = other 0 1 ∷ other 1 1 ∷ [] }

abbrev graph_of_empty : Graph
graph_of_empty = record { kinds = Accept ∷ RejectState ∷ NeitherState ∷ []; edges = edges_of_empty }

noop_is : (p q : ℕ) → Contains edges_of_empty.noops (noop p q) → (p ≡ 2) × (q ≡ 0)
noop_is p q (zero, l, e) = (sym (ap (λ (x : Edge Noop). x.from) e), sym (ap (λ (x : Edge Noop). x.to) e))
noop_is p q (suc k, l, e) = absurd (omega arith)

other_is : (p q : ℕ) → Contains edges_of_empty.others (other p q) → (p < 2) × (q ≡ 1)
other_is p q (zero, l, e) = (let f : 0 ≡ p = ap (λ (x : Edge Other). x.from) e in omega (arith, f), sym (ap (λ (x : Edge Other). x.to) e))
other_is p q (suc zero, l, e) = (let f : 1 ≡ p = ap (λ (x : Edge Other). x.from) e in omega (arith, f), sym (ap (λ (x : Edge Other). x.to) e))
other_is p q (suc (suc k), l, e) = absurd (omega arith)

untested : (p c : ℕ) → IsUntested edges_of_empty p c
untested p c r q h k = omega (arith, h.1)

-- where paths end
record Ends (last p : ℕ) (w : List ℕ) : Type 0 where
  reject : p ≡ 1 → last ≡ 1
  accept_stays : p ≡ 0 → w ≡ [] → last ≡ 0
  accept_reads : p ≡ 0 → w ≢ [] → last ≡ 1
  start_stays : p ≡ 2 → w ≡ [] → (last ≡ 2) ⊎ (last ≡ 0)
  start_reads : p ≡ 2 → w ≢ [] → last ≡ 1

ends : (last p : ℕ) (w : List ℕ) → Path edges_of_empty last p w → Ends last p w
ends last _ _ (here p e) = record {
  reject = λ h. sym e ∙ h;
  accept_stays = λ h k. sym e ∙ h;
  accept_reads = λ h n. absurd (n refl);
  start_stays = λ h k. inl (sym e ∙ h);
  start_reads = λ h n. absurd (n refl);
}
ends last _ _ (epsilon p q w m path) =
    let is = noop_is p q m in
    let rest = ends last q w path in
    record {
      reject = λ h. absurd (omega (arith, h, is.0));
      accept_stays = λ h k. absurd (omega (arith, h, is.0));
      accept_reads = λ h n. absurd (omega (arith, h, is.0));
      start_stays = λ h k. inr (rest.accept_stays is.1 k);
      start_reads = λ h n. rest.accept_reads is.1 n;
    }
ends last _ _ (read p q v r c m k path) = absurd (omega (arith, m.1))
ends last _ _ (otherwise p q v c m u path) =
    let is = other_is p q m in
    let end : last ≡ 1 = (ends last q v path).reject is.1 in
    record {
      reject = λ h. end;
      accept_stays = λ h k. absurd (cc);
      accept_reads = λ h n. end;
      start_stays = λ h k. absurd (cc);
      start_reads = λ h n. end;
    }

word_is_empty : (w : List ℕ) → Path edges_of_empty 0 2 w → w ≡ []
word_is_empty [] path = refl
word_is_empty (c ∷ w) path = let k : 0 ≡ 1 = (ends 0 2 (c ∷ w) path).start_reads refl (λ e. cc) in absurd (omega (arith, k))

accepting : (p : ℕ) → slice_get graph_of_empty.kinds p ≡ Some Accept ↔ (p ≡ 0)
accepting zero = ((λ _. refl), (λ _. refl))
accepting (suc zero) = ((λ h. absurd (cc)), (λ h. absurd (omega arith)))
accepting (suc (suc zero)) = ((λ h. absurd (cc)), (λ h. absurd (omega arith)))
accepting (suc (suc (suc p))) = ((λ h. absurd (cc)), (λ h. absurd (omega arith)))

rejecting : (p : ℕ) → slice_get graph_of_empty.kinds p ≡ Some RejectState ↔ (p ≡ 1)
rejecting zero = ((λ h. absurd (cc)), (λ h. absurd (omega arith)))
rejecting (suc zero) = ((λ _. refl), (λ _. refl))
rejecting (suc (suc zero)) = ((λ h. absurd (cc)), (λ h. absurd (omega arith)))
rejecting (suc (suc (suc p))) = ((λ h. absurd (cc)), (λ h. absurd (omega arith)))

graph_is_compiled : IsCompiled empty graph_of_empty
graph_is_compiled = record {
  reads = λ w. (word_is_empty w, λ e. subst (λ v. Path edges_of_empty 0 2 v) (sym e) (epsilon 2 0 [] (0, omega arith, refl) (here 0 refl)));
  few = omega arith;
  start_in = omega arith;
  accepting = accepting;
  rejecting = rejecting;
  noops_in = λ e h. let is = noop_is e.from e.to h in (omega (arith, is.0), omega (arith, is.1), λ f. omega (arith, is.0, f));
  tests_in = λ e h. absurd (omega (arith, h.1));
  others_in = λ e h. let is = other_is e.from e.to h in (omega (arith, is.0), is.1);
  labels = λ e h. absurd (omega (arith, h.1));
  apart = λ i j e f h g n same m. absurd (cc);
}

-- the list of the empty tree has this automaton
empty_tree_has_its_automaton : AreCompiled (empty ∷ []) (graph_of_empty ∷ [])
empty_tree_has_its_automaton = record { same_length = refl; each = each }
  where
    each : (i : ℕ) (t : Tree) (g : Graph) → slice_get (empty ∷ []) i ≡ Some t → slice_get (graph_of_empty ∷ []) i ≡ Some g → IsCompiled t g
    each zero t g e f =
        let same_tree : empty ≡ t = cc in
        let same_graph : graph_of_empty ≡ g = cc in
        subst (λ u. IsCompiled u g) same_tree (subst (λ u. IsCompiled empty u) same_graph graph_is_compiled)
    each (suc i) t g e f = absurd (cc)

-- a literal doesn't
literal_has_another_automaton : ¬ AreCompiled (literal (97 ∷ []) ∷ []) (graph_of_empty ∷ [])
literal_has_another_automaton c =
    let path = ((c.each 0 _ _ refl refl).reads (97 ∷ [])).1 refl in
    let e = word_is_empty (97 ∷ []) path in
    absurd (cc)

abbrev first_row : Row
first_row = record { kind = Accepts 0; tests = []; other = 1; items = (0, 0) ∷ (0, 2) ∷ [] }

abbrev second_row : Row
second_row = record { kind = Reject; tests = []; other = 1; items = (0, 1) ∷ [] }

-- the first state holds ACCEPT and START, the second, to which all words lead that aren't empty, holds REJECT
abbrev automaton_of_empty : List Row
automaton_of_empty = first_row ∷ second_row ∷ []

abbrev ns : List Graph
ns = graph_of_empty ∷ []

automaton_of_the_empty_tree_holds_its_items : HoldsItems ns automaton_of_empty
automaton_of_the_empty_tree_holds_its_items = record { reached = reached; items = items; labels = labels; distinct = distinct; rejects = rejects }
  where
    reached : (p : ℕ) → p < 2 → (w : List ℕ) × (IsWord w × (after automaton_of_empty w ≡ p))
    reached zero l = ([], (tt, refl))
    reached (suc zero) l = (97 ∷ [], ((omega arith, tt), refl))
    reached (suc (suc p)) l = absurd (omega arith)

    stays : (w : List ℕ) → run automaton_of_empty 1 w ≡ 1
    stays [] = refl
    stays (c ∷ w) = stays w

    one_place : (i : ℕ) (g : Graph) → slice_get ns i ≡ Some g → (i ≡ 0) × (graph_of_empty ≡ g)
    one_place zero g e = (refl, (cc))
    one_place (suc i) g e = absurd (cc)

    to_reject : (w : List ℕ) → Path edges_of_empty 1 1 w
    to_reject [] = here 1 refl
    to_reject (c ∷ w) = otherwise 1 1 w c (1, omega arith, refl) (untested 1 c) (to_reject w)

    first_reached : (x : Item) → Contains first_row.items x → IsReached ns [] x
    first_reached x (zero, l, e) = subst (λ y. IsReached ns [] y) e (graph_of_empty, (refl, epsilon 2 0 [] (0, omega arith, refl) (here 0 refl)))
    first_reached x (suc zero, l, e) = subst (λ y. IsReached ns [] y) e (graph_of_empty, (refl, here 2 refl))
    first_reached x (suc (suc k), l, e) = absurd (omega arith)

    first_at : (i q : ℕ) → i ≡ 0 → (q ≡ 2) ⊎ (q ≡ 0) → Contains first_row.items (i, q)
    first_at i q e (inl m) = rw (e, m) (1, omega arith, refl)
    first_at i q e (inr m) = rw (e, m) (0, omega arith, refl)

    first_held : (x : Item) → IsReached ns [] x → Contains first_row.items x
    first_held (i, q) (g, (e, path)) =
        let is = one_place i g e in
        first_at i q is.0 ((ends q 2 [] (subst (λ u. Path u.edges q 2 []) (sym is.1) path)).start_stays refl refl)

    second_reached : (c : ℕ) (w : List ℕ) (x : Item) → Contains second_row.items x → IsReached ns (c ∷ w) x
    second_reached c w x (zero, l, e) =
        subst (λ y. IsReached ns (c ∷ w) y) e (
          graph_of_empty,
          (
            refl,
            epsilon 2 0 (c ∷ w) (0, omega arith, refl)
                (otherwise 0 1 w c (0, omega arith, refl) (untested 0 c) (to_reject w)),
          ),
        )
    second_reached c w x (suc k, l, e) = absurd (omega arith)

    second_at : (i q : ℕ) → i ≡ 0 → q ≡ 1 → Contains second_row.items (i, q)
    second_at i q e m = rw (e, m) (0, omega arith, refl)

    second_held : (c : ℕ) (w : List ℕ) (x : Item) → IsReached ns (c ∷ w) x → Contains second_row.items x
    second_held c w (i, q) (g, (e, path)) =
        let is = one_place i g e in
        second_at i q is.0 ((ends q 2 (c ∷ w) (subst (λ u. Path u.edges q 2 (c ∷ w)) (sym is.1) path)).start_reads refl (λ k. cc))

    items : (w : List ℕ) (r : Row) (x : Item) → slice_get automaton_of_empty (after automaton_of_empty w) ≡ Some r → Contains r.items x ↔ IsReached ns w x
    items [] r x e =
        let f : first_row ≡ r = cc in
        subst (λ s. Contains s.items x ↔ IsReached ns [] x) f (first_reached x, first_held x)
    items (c ∷ w) r x e =
        let g : slice_get automaton_of_empty 1 ≡ Some r = subst (λ n. slice_get automaton_of_empty n ≡ Some r) (stays w) e in
        let f : second_row ≡ r = cc in
        subst (λ s. Contains s.items x ↔ IsReached ns (c ∷ w) x) f (second_reached c w x, second_held c w x)

    tests_of : (p : ℕ) (r : Row) → slice_get automaton_of_empty p ≡ Some r → [] ≡ r.tests
    tests_of zero r e = cc
    tests_of (suc zero) r e = cc
    tests_of (suc (suc p)) r e = absurd (cc)

    no_test : (g : Graph) (t : Edge Range) → graph_of_empty ≡ g → ¬ Contains g.edges.tests t
    no_test g t e h = let k = subst (λ u. Contains u.edges.tests t) (sym e) h in omega (arith, k.1)

    labels : (p : ℕ) (r : Row) → slice_get automaton_of_empty p ≡ Some r → IsPartition (IsLeaving ns r.items) (map (λ t. t.0) r.tests)
    labels p r e = subst (λ ts. IsPartition (IsLeaving ns r.items) (map (λ t. t.0) ts)) (tests_of p r e) (record {
      ascending = tt;
      are_blocks = λ x h. absurd (omega (arith, h.1));
      all_blocks = λ x run. let held = run.uniform.covered x.start (omega arith, run.uniform.holds_one) in
          let leaving = held.1.0 in
          absurd (no_test leaving.1 _ (one_place leaving.0.0 leaving.1 leaving.3.1).1 leaving.3.2);
    })

    accept_in_first : (r : Row) → first_row ≡ r → Contains r.items (0, 0)
    accept_in_first r e = subst (λ s. Contains s.items (0, 0)) e (0, omega arith, refl)

    second_alone : (r : Row) (x : Item) → second_row ≡ r → Contains r.items x → x.1 ≡ 1
    second_alone r x e h = by_place x (subst (λ s. Contains s.items x) (sym e) h)
      where
        by_place : (x : Item) → Contains second_row.items x → x.1 ≡ 1
        by_place x (zero, l, f) = sym (ap (λ (y : Item). y.1) f)
        by_place x (suc k, l, f) = absurd (omega arith)

    distinct : (p q : ℕ) (r s : Row) → slice_get automaton_of_empty p ≡ Some r → slice_get automaton_of_empty q ≡ Some s → ((x : Item) → Contains r.items x ↔ Contains s.items x) → p ≡ q
    distinct zero zero r s e f h = refl
    distinct zero (suc zero) r s e f h =
        let a : first_row ≡ r = cc in
        let b : second_row ≡ s = cc in
        let k : 0 ≡ 1 = second_alone s (0, 0) b ((h (0, 0)).0 (accept_in_first r a)) in absurd (omega (arith, k))
    distinct zero (suc (suc q)) r s e f h = absurd (cc)
    distinct (suc zero) zero r s e f h =
        let a : second_row ≡ r = cc in
        let b : first_row ≡ s = cc in
        let k : 0 ≡ 1 = second_alone r (0, 0) a ((h (0, 0)).1 (accept_in_first s b)) in absurd (omega (arith, k))
    distinct (suc zero) (suc zero) r s e f h = refl
    distinct (suc zero) (suc (suc q)) r s e f h = absurd (cc)
    distinct (suc (suc p)) q r s e f h = absurd (cc)

    rejects : (p : ℕ) (r : Row) → slice_get automaton_of_empty p ≡ Some r → (r.kind ≡ Reject) ↔ ((x : Item) → Contains r.items x → x.1 ≡ 1)
    rejects zero r e =
        let a : first_row ≡ r = cc in (
          (λ k. let n : Accepts 0 ≡ Reject = ap (λ (s : Row). s.kind) a ∙ k in absurd (cc)),
          (λ h. let n : 0 ≡ 1 = h (0, 0) (accept_in_first r a) in absurd (omega (arith, n))),
        )
    rejects (suc zero) r e =
        let a : second_row ≡ r = cc in
        ((λ k x h. second_alone r x a h), (λ h. sym (ap (λ (s : Row). s.kind) a)))
    rejects (suc (suc p)) r e = absurd (cc)

-- the automaton of no trees doesn't: the empty word leads to START
automaton_of_nothing_does_not_hold_the_empty_tree : ¬ HoldsItems (graph_of_empty ∷ []) automaton_of_nothing
automaton_of_nothing_does_not_hold_the_empty_tree h =
    let held = (h.items [] _ (0, 2) refl).1 (graph_of_empty, (refl, here 2 refl)) in
    omega (arith, held.1)

-- the class a-b, or the literal `c`
abbrev ab_or_c : Tree
ab_or_c = alternation (also (class (unicode (between 97 98 ∷ []))) (also (literal (99 ∷ [])) none))

-- an automaton of it with the one range a-c at its first state
abbrev with_joined_ranges : List Row
with_joined_ranges =
    record { kind = Neither; tests = (between 97 99, 1) ∷ []; other = 2; items = (0, 2) ∷ (0, 3) ∷ (0, 4) ∷ (0, 5) ∷ [] }
    ∷ record { kind = Accepts 0; tests = []; other = 2; items = (0, 0) ∷ [] }
    ∷ record { kind = Reject; tests = []; other = 2; items = (0, 1) ∷ [] }
    ∷ []

-- it doesn't hold its items: the ranges of a state end where its labels do
joined_ranges_do_not_hold_items : (ns : List Graph) → AreCompiled (ab_or_c ∷ []) ns → ¬ HoldsItems ns with_joined_ranges
joined_ranges_do_not_hold_items ns c h =
    let uniform = ((h.labels 0 _ refl).are_blocks (between 97 99) (0, omega arith, refl)).uniform in
    let held = uniform.covered 97 (omega arith, omega arith) in
    let leaving = held.1.0 in
    let place = one_place ns leaving.0.0 leaving.1 c.same_length leaving.3.1 in
    let here : slice_get ns 0 ≡ Some leaving.1 = subst (λ i. slice_get ns i ≡ Some leaving.1) place leaving.3.1 in
    let compiled = c.each 0 ab_or_c leaving.1 refl here in
    let label = (compiled.labels (test leaving.0.1 held.0 leaving.2) leaving.3.2).0 in
    by_label held.0 held.1.1 ((uniform.constant 97 99 (omega arith, omega arith) (omega arith, omega arith) held.0 held.1.0).0 held.1.1) (label_is held.0 label)
  where
    label_is : (r : Range) → IsLabel ab_or_c r → (r ≡ between 97 98) ⊎ (r ≡ between 99 99)
    label_is r (inl (zero, l, e)) = inl (sym e)
    label_is r (inl (suc k, l, e)) = absurd (omega arith)
    label_is r (inr (inl (c, ((zero, l, e), f)))) = inr (f ∙ ap (λ x. between x x) (sym e))
    label_is r (inr (inl (c, ((suc k, l, e), f)))) = absurd (omega arith)
    label_is r (inr (inr h)) = absurd h

    one_place : (ns : List Graph) (i : ℕ) (g : Graph) → length ns ≡ 1 → slice_get ns i ≡ Some g → i ≡ 0
    one_place [] i g l e = absurd (omega (arith, l))
    one_place (n ∷ ns) zero g l e = refl
    one_place (n ∷ []) (suc i) g l e = absurd (cc)
    one_place (n ∷ m ∷ ns) (suc i) g l e = absurd (omega (arith, l))

    by_label : (r : Range) → Covers r 97 → Covers r 99 → (r ≡ between 97 98) ⊎ (r ≡ between 99 99) → ⊥
    by_label r k l (inl e) = let m = subst (λ s. Covers s 99) e l in omega (arith, m.1)
    by_label r k l (inr e) = let m = subst (λ s. Covers s 97) e k in omega (arith, m.0)

-- ---- other edges

-- the other edges of the automaton of `a` lead to its reject state
other_edges_lead_to_reject : OthersReject automaton_of_a
other_edges_lead_to_reject p r s h g =
    let there : slice_get automaton_of_a 2 ≡ Some s = subst (λ n. slice_get automaton_of_a n ≡ Some s) (transition p r h) g in
    let e : Reject ≡ s.kind = cc in
    sym e
  where
    transition : (p : ℕ) (r : Row) → slice_get automaton_of_a p ≡ Some r → r.other ≡ 2
    transition zero r e = cc
    transition (suc zero) r e = cc
    transition (suc (suc zero)) r e = cc
    transition (suc (suc (suc p))) r e = absurd (cc)

-- a state that takes any value leads elsewhere
other_edge_to_an_accepting_state : ¬ OthersReject (record { kind = Accepts 0; tests = []; other = 0; items = [] } ∷ [])
other_edge_to_an_accepting_state o = let e : Accepts 0 ≡ Reject = o 0 _ _ refl refl in absurd (cc)

-- ---- the order of states

-- the first state is that of the empty word, the second that of `a`
states_in_the_order_of_words : IsInWordOrder automaton_of_a
states_in_the_order_of_words zero zero r s l h g k m = absurd (omega arith)
states_in_the_order_of_words zero (suc zero) r s l h g k m = ([], search (arith, longer))
  where
    longer : (w : List ℕ) → after automaton_of_a w ≡ 1 → Shortlex [] w
    longer [] e = absurd (omega (arith, e))
    longer (c ∷ w) e = inl (omega arith)
states_in_the_order_of_words zero (suc (suc zero)) r s l h g k m = let e : s.kind ≡ Reject = cc in absurd (m e)
states_in_the_order_of_words zero (suc (suc (suc q))) r s l h g k m = absurd (cc)
states_in_the_order_of_words (suc zero) zero r s l h g k m = absurd (omega arith)
states_in_the_order_of_words (suc zero) (suc zero) r s l h g k m = absurd (omega arith)
states_in_the_order_of_words (suc zero) (suc (suc zero)) r s l h g k m = let e : s.kind ≡ Reject = cc in absurd (m e)
states_in_the_order_of_words (suc zero) (suc (suc (suc q))) r s l h g k m = absurd (cc)
states_in_the_order_of_words (suc (suc zero)) q r s l h g k m = let e : r.kind ≡ Reject = cc in absurd (k e)
states_in_the_order_of_words (suc (suc (suc p))) q r s l h g k m = absurd (cc)

-- the automaton of `b` and `a`, whose states are numbered from the last range on
abbrev numbered_backwards : List Row
numbered_backwards =
    record { kind = Neither; tests = (between 97 97, 2) ∷ (between 98 98, 1) ∷ []; other = 3; items = [] }
    ∷ record { kind = Accepts 0; tests = []; other = 3; items = [] }
    ∷ record { kind = Accepts 1; tests = []; other = 3; items = [] }
    ∷ record { kind = Reject; tests = []; other = 3; items = [] }
    ∷ []

-- `b` leads to a state with a smaller number than that of `a`
states_out_of_the_order_of_words : ¬ IsInWordOrder numbered_backwards
states_out_of_the_order_of_words o =
    let found = o 1 2 _ _ (omega arith) refl refl (λ e. cc) (λ e. cc) in
    let leads : after numbered_backwards found.0 ≡ 1 = assumption found.1 in
    let least : (w : List ℕ) → after numbered_backwards w ≡ 2 → Shortlex found.0 w = assumption found.1 in
    too_late found.0 leads (least (97 ∷ []) refl)
  where
    low_step : (c : ℕ) → c < 97 → step numbered_backwards 0 c ≡ 3
    low_step c h = rw (lt-leb 97 c h, lt-leb 98 c (omega (arith, h))) refl

    too_late : (v : List ℕ) → after numbered_backwards v ≡ 1 → Shortlex v (97 ∷ []) → ⊥
    too_late [] e s = omega (arith, e)
    too_late (c ∷ d ∷ v) e (inl h) = omega arith
    too_late (c ∷ d ∷ v) e (inr h) = omega (arith, h.0)
    too_late (c ∷ []) e (inl h) = omega arith
    too_late (c ∷ []) e (inr h) = by_place h.1
      where
        by_place : FirstDifferenceLess (c ∷ []) (97 ∷ []) → ⊥
        by_place (inl l) = let f : 3 ≡ 1 = sym (low_step c l) ∙ e in omega (arith, f)
        by_place (inr g) = g.1
