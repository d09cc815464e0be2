-- Cases of specs/Alphabet.antt: an automaton in which one edge leaves the third state, by the letters from b to d.
use Rattle.std.proofs.Common.{◌≡◌, ℕ, zero, suc, ◌+◌, ◌<◌, ◌≤◌, ◌^◌, ◌⊎◌, inl, inr, List, [], ◌∷◌, length, Some, refl, sym, ap, ◌∙◌, subst, arith}
use Rattle.std.specs.Prelude.{◌↔◌, slice_get}
use Rattle.std.specs.List.{Contains}
use Rattle.std.specs.declared.alloc.Global.{Global}
use Rattle.std.specs.declared.vec.Vec.{Vec}
use Rattle.std.proofs.lemmas.Option.{slice_get_within}
use denote.RawPtr.{null_ptr}
use Rattle.lalrpop_hir.specs.Range.{Range, Covers}
use Rattle.lalrpop_nfa.specs.Graph.{Graph}
use Rattle.lalrpop_nfa.specs.Path.{test}
use Rattle.lalrpop_nfa.specs.declared.edge.Edge.{Edge}
use Rattle.lalrpop_nfa.specs.declared.edge.StateKind.TheVariants.{Accept, Reject, Neither}
use Rattle.lalrpop_build.specs.declared.alphabet.Cell.{Cell}
use Rattle.lalrpop_build.specs.declared.alphabet.Group.{Group}
use Rattle.lalrpop_build.specs.declared.alphabet.EdgeGroup.{EdgeGroup}
use Rattle.lalrpop_build.specs.declared.alphabet.StateEdgeGroups.{StateEdgeGroups}
use Rattle.lalrpop_build.specs.declared.alphabet.NfaEdgeGroups.{NfaEdgeGroups}
use Rattle.lalrpop_build.specs.Internal.Alphabet.{Classes, IsEdgeGroupOf, HasState, IsInCell, HasClass, HasBoundary, LeadsBy, HasBoundaryAt, IsEndOf, IsFirstOf, AreCells, AreGroups, IsSound, IsAlphabetOf}

-- the letters from b to d
abbrev b_to_d : Range
b_to_d = record { start = 98; end = 100 }

abbrev edge_of : Edge Range
edge_of = test 2 b_to_d 0

abbrev graph : Graph
graph = record { kinds = Accept ∷ Reject ∷ Neither ∷ []; edges = record { noops = []; tests = edge_of ∷ []; others = [] } }

-- b to d are of class 0; at e the label is over
abbrev letters : Cell
letters = record { first = 98; class = 0 }

abbrev over : Cell
over = record { first = 101; class = 1 }

abbrev two_cells : List Cell
two_cells = letters ∷ over ∷ []

abbrev edge_group : EdgeGroup
edge_group = record { group = 0; to = 0 }

-- ---- where a label begins and is over

ends_of_a_range : IsEndOf b_to_d 98 × IsEndOf b_to_d 101
ends_of_a_range = ((omega arith, inl refl), (omega arith, inr refl))

last_value_is_no_end : ¬ IsEndOf b_to_d 100
last_value_is_no_end (some, inl e) = omega (arith, e)
last_value_is_no_end (some, inr e) = omega (arith, e)

range_without_values_has_no_end : (v : ℕ) → ¬ IsEndOf (record { start = 98; end = 97 }) v
range_without_values_has_no_end v h = omega (arith, h.0)

-- ---- cells

first_and_last_value_of_a_cell : IsInCell two_cells 0 0 98 × IsInCell two_cells 0 0 100
first_and_last_value_of_a_cell = ((letters, over, (refl, refl, refl, omega arith, omega arith)), (letters, over, (refl, refl, refl, omega arith, omega arith)))

-- a cell has its values, and the last cell has no values
values_of_the_cells : (k c v : ℕ) → IsInCell two_cells k c v → (c ≡ 0) × (98 ≤ v) × (v ≤ 100)
values_of_the_cells zero c v (x, y, (here, next, is, from, until)) =
    let first : letters ≡ x = cc in
    let second : over ≡ y = cc in
    let class : 0 ≡ x.class = ap (λ (z : Cell). z.class) first in
    let low : 98 ≡ x.first = ap (λ (z : Cell). z.first) first in
    let high : 101 ≡ y.first = ap (λ (z : Cell). z.first) second in
    (omega (arith, class, is), omega (arith, low, from), omega (arith, high, until))
values_of_the_cells (suc k) c v (x, y, (here, next, is, from, until)) = absurd (omega (arith, slice_get_within two_cells (suc k + 1) y next))

next_value_is_in_no_cell : (k c : ℕ) → ¬ IsInCell two_cells k c 101
next_value_is_in_no_cell k c h = omega (arith, (values_of_the_cells k c 101 h).2)

firsts_of_the_cells : IsFirstOf two_cells 0 98 × IsFirstOf two_cells 1 101
firsts_of_the_cells = (refl, refl)

last_value_is_no_first : ¬ IsFirstOf two_cells 0 100
last_value_is_no_first e = omega (arith, e)

cells_ascend : AreCells two_cells 2
cells_ascend = record { rising = rising; within = within }
  where
    rising : (j k : ℕ) (x y : Cell) → slice_get two_cells j ≡ Some x → slice_get two_cells k ≡ Some y → j < k → x.first < y.first
    rising zero zero x y a b l = omega arith
    rising zero (suc zero) x y a b l =
        let first : letters ≡ x = cc in
        let second : over ≡ y = cc in
        let low : 98 ≡ x.first = ap (λ (z : Cell). z.first) first in
        let high : 101 ≡ y.first = ap (λ (z : Cell). z.first) second in
        omega (arith, low, high)
    rising zero (suc (suc k)) x y a b l = absurd (cc)
    rising (suc j) k x y a b l = absurd (omega (arith, slice_get_within two_cells k y b))

    within : (k : ℕ) (x : Cell) → slice_get two_cells k ≡ Some x → (x.first ≤ 4294967296) × (x.class < 2)
    within zero x e = let same : letters ≡ x = cc in subst (λ (z : Cell). (z.first ≤ 4294967296) × (z.class < 2)) same (omega arith, omega arith)
    within (suc zero) x e = let same : over ≡ x = cc in subst (λ (z : Cell). (z.first ≤ 4294967296) × (z.class < 2)) same (omega arith, omega arith)
    within (suc (suc k)) x e = absurd (cc)

cells_turned_do_not_ascend : ¬ AreCells (over ∷ letters ∷ []) 2
cells_turned_do_not_ascend h = omega (arith, h.rising 0 1 over letters refl refl (omega arith))

class_of_the_end_is_counted : ¬ AreCells two_cells 1
class_of_the_end_is_counted h = omega (arith, (h.within 1 over refl).1)

-- the edge groups of one state
abbrev state_of : List EdgeGroup → StateEdgeGroups
state_of ls = record { edge_groups = record { items = ls; capacity = 1 } }

module _ (alloc : Global) where
  -- a vector of these elements
  abbrev vector : {X : Type 0} (xs : List X) → length xs < 2 ^ 63 → Vec X Global
  vector xs small = record { ptr = null_ptr; len = length xs; cap = length xs; alloc = alloc; items = xs; ok = (refl, omega arith); small = small }

  -- a group with these boundaries and classes, of at most two each
  abbrev group_of : (boundaries classes : List ℕ) → length boundaries ≤ 2 → length classes ≤ 2 → Group
  group_of boundaries classes l m = record { boundaries = vector boundaries (omega (arith, l)); classes = vector classes (omega (arith, m)) }

  abbrev group : Group
  group = group_of (0 ∷ 1 ∷ []) (0 ∷ []) (omega arith) (omega arith)

  -- the edge groups of the three states, of which the third has this one
  abbrev nfa_by : EdgeGroup → NfaEdgeGroups
  nfa_by l = record { states = vector (state_of [] ∷ state_of [] ∷ state_of (l ∷ []) ∷ []) (omega arith) }

  -- the alphabet with this group and this edge group
  abbrev alphabet_by : Group → EdgeGroup → Classes
  alphabet_by g l = record { cells = two_cells; groups = g ∷ []; nfas = nfa_by l ∷ []; count = 2 }

  abbrev alphabet : Classes
  alphabet = alphabet_by group edge_group

  -- ---- states and their edge groups

  same_nfa : (by : EdgeGroup) (x : NfaEdgeGroups) → Some (nfa_by by) ≡ Some x → nfa_by by ≡ x
  same_nfa by x e = cc

  states_of_the_automaton : HasState alphabet.nfas 0 2
  states_of_the_automaton = (nfa_by edge_group, (refl, omega arith))

  there_is_no_fourth_state : ¬ HasState alphabet.nfas 0 3
  there_is_no_fourth_state (x, (e, l)) = let n : 3 ≡ length x.states.items = ap (λ (z : NfaEdgeGroups). length z.states.items) (same_nfa edge_group x e) in omega (arith, n, l)

  there_is_no_second_automaton : ¬ HasState alphabet.nfas 1 0
  there_is_no_second_automaton (x, (e, l)) = absurd (cc)

  module _ (by : EdgeGroup) where
    third_has_the_edge_group : IsEdgeGroupOf (nfa_by by ∷ []) 0 2 by
    third_has_the_edge_group = (by ∷ [], ((nfa_by by, state_of (by ∷ []), (refl, refl, refl)), (0, omega arith, refl)))

    -- the lists of edge groups, by the number of the state
    edge_groups_at : (p : ℕ) (y : StateEdgeGroups) → slice_get (nfa_by by).states.items p ≡ Some y → ((p ≡ 2) × (y.edge_groups.items ≡ by ∷ [])) ⊎ (y.edge_groups.items ≡ [])
    edge_groups_at zero y e = let same : state_of [] ≡ y = cc in inr (ap (λ (z : StateEdgeGroups). z.edge_groups.items) (sym same))
    edge_groups_at (suc zero) y e = let same : state_of [] ≡ y = cc in inr (ap (λ (z : StateEdgeGroups). z.edge_groups.items) (sym same))
    edge_groups_at (suc (suc zero)) y e = let same : state_of (by ∷ []) ≡ y = cc in inl (refl, ap (λ (z : StateEdgeGroups). z.edge_groups.items) (sym same))
    edge_groups_at (suc (suc (suc p))) y e = absurd (cc)

    one_has : (l : EdgeGroup) → Contains (by ∷ []) l → by ≡ l
    one_has l (zero, m, e) = e
    one_has l (suc k, m, e) = absurd (omega (arith, m))

    -- and no state has another edge group
    only_edge_group : (i p : ℕ) (l : EdgeGroup) → IsEdgeGroupOf (nfa_by by ∷ []) i p l → (i ≡ 0) × (p ≡ 2) × (by ≡ l)
    only_edge_group zero p l (ls, ((x, y, (here, state, is)), has)) =
        let at : slice_get (nfa_by by).states.items p ≡ Some y = subst (λ (z : NfaEdgeGroups). slice_get z.states.items p ≡ Some y) (sym (same_nfa by x here)) state in
        elim (edge_groups_at p y at) [
          | inl third ↦ (refl, third.0, one_has l (subst (λ zs. Contains zs l) (is ∙ third.1) has))
          | inr none ↦ absurd (let h = subst (λ zs. Contains zs l) (is ∙ none) has in omega (arith, h.1))
        ]
    only_edge_group (suc i) p l (ls, ((x, y, (here, state, is)), has)) = absurd (cc)

  first_state_has_no_edge_group : (l : EdgeGroup) → ¬ IsEdgeGroupOf alphabet.nfas 0 0 l
  first_state_has_no_edge_group l h = omega (arith, (only_edge_group edge_group 0 0 l h).1)

  -- ---- groups

  group_has_its_class_and_its_boundaries : HasClass alphabet.groups 0 0 × HasBoundary alphabet.groups 0 0 × HasBoundary alphabet.groups 0 1
  group_has_its_class_and_its_boundaries = ((group, (refl, (0, omega arith, refl))), (group, (refl, (0, omega arith, refl))), (group, (refl, (1, omega arith, refl))))

  -- a group of an alphabet with one group is that group
  only_group : (g x : Group) (n : ℕ) → slice_get (g ∷ []) n ≡ Some x → (n ≡ 0) × (g ≡ x)
  only_group g x zero e = (refl, cc)
  only_group g x (suc n) e = absurd (cc)

  only_class : (n c : ℕ) → HasClass alphabet.groups n c → (n ≡ 0) × (c ≡ 0)
  only_class n c (x, (at, has)) = let here = only_group group x n at in (here.0, one (subst (λ (z : Group). Contains z.classes.items c) (sym here.1) has))
    where
      one : Contains (0 ∷ []) c → c ≡ 0
      one (zero, l, e) = sym e
      one (suc k, l, e) = absurd (omega (arith, l))

  only_boundaries : (n k : ℕ) → HasBoundary alphabet.groups n k → (n ≡ 0) × (k ≤ 1)
  only_boundaries n k (x, (at, has)) = let here = only_group group x n at in (here.0, two (subst (λ (z : Group). Contains z.boundaries.items k) (sym here.1) has))
    where
      two : Contains (0 ∷ 1 ∷ []) k → k ≤ 1
      two (zero, l, e) = omega (arith, e)
      two (suc zero, l, e) = omega (arith, e)
      two (suc (suc m), l, e) = absurd (omega (arith, l))

  -- ---- where classes lead, and where labels end

  class_of_the_letters_leads_from_the_third_state : LeadsBy alphabet 0 2 0 0
  class_of_the_letters_leads_from_the_third_state = (edge_group, (third_has_the_edge_group edge_group, refl, group_has_its_class_and_its_boundaries.0))

  it_leads_nowhere_else : (i p c q : ℕ) → LeadsBy alphabet i p c q → (i ≡ 0) × (p ≡ 2) × (c ≡ 0) × (q ≡ 0)
  it_leads_nowhere_else i p c q (l, (by, to, has)) =
      let only = only_edge_group edge_group i p l by in
      let target : 0 ≡ l.to = ap (λ (z : EdgeGroup). z.to) only.2 in
      (only.0, only.1, (only_class l.group c has).1, omega (arith, target, to))

  label_begins_and_is_over : HasBoundaryAt alphabet 0 2 0 × HasBoundaryAt alphabet 0 2 1
  label_begins_and_is_over = ((edge_group, (third_has_the_edge_group edge_group, group_has_its_class_and_its_boundaries.1)), (edge_group, (third_has_the_edge_group edge_group, group_has_its_class_and_its_boundaries.2)))

  no_label_ends_elsewhere : (i p k : ℕ) → HasBoundaryAt alphabet i p k → (p ≡ 2) × (k ≤ 1)
  no_label_ends_elsewhere i p k (l, (by, boundary)) = ((only_edge_group edge_group i p l by).1, (only_boundaries l.group k boundary).1)

  -- ---- bounds

  groups_are_within : AreGroups alphabet.groups two_cells 2
  groups_are_within = record {
    boundaries_in = λ n k h. omega (arith, (only_boundaries n k h).1);
    classes_in = λ n c h. omega (arith, (only_class n c h).1);
  }

  boundary_beyond_the_cells : ¬ AreGroups alphabet.groups (letters ∷ []) 2
  boundary_beyond_the_cells h = omega (arith, h.boundaries_in 0 1 group_has_its_class_and_its_boundaries.2)

  class_that_is_not_counted : ¬ AreGroups alphabet.groups two_cells 0
  class_that_is_not_counted h = omega (arith, h.classes_in 0 0 group_has_its_class_and_its_boundaries.0)

  alphabet_is_sound : IsSound alphabet
  alphabet_is_sound = record {
    cells = cells_ascend;
    groups = groups_are_within;
    groups_in = λ i p l h. (let is : 0 ≡ l.group = ap (λ (z : EdgeGroup). z.group) (only_edge_group edge_group i p l h).2 in omega (arith, is));
  }

  edge_group_with_no_group : ¬ IsSound (alphabet_by group (record { group = 1; to = 0 }))
  edge_group_with_no_group h = omega (arith, h.groups_in 0 2 (record { group = 1; to = 0 }) (third_has_the_edge_group (record { group = 1; to = 0 })))

  -- ---- the alphabet of the automaton

  only_edge : (p q : ℕ) (r : Range) → Contains graph.edges.tests (test p r q) → (p ≡ 2) × (b_to_d ≡ r) × (q ≡ 0)
  only_edge p q r (zero, l, e) =
      let from : 2 ≡ p = ap (λ (x : Edge Range). x.from) e in
      let to : 0 ≡ q = ap (λ (x : Edge Range). x.to) e in
      (sym from, ap (λ (x : Edge Range). x.label) e, sym to)
  only_edge p q r (suc k, l, e) = absurd (omega (arith, l))

  the_edge : (p q : ℕ) → p ≡ 2 → q ≡ 0 → Contains graph.edges.tests (test p b_to_d q)
  the_edge p q from to = rw (from, to) (0, omega arith, refl)

  same_graph : (g : Graph) → Some graph ≡ Some g → graph ≡ g
  same_graph g e = cc

  alphabet_of_the_automaton : IsAlphabetOf (graph ∷ []) alphabet
  alphabet_of_the_automaton = record { states = states; leads = leads; boundaries = boundaries }
    where
      states : (i p : ℕ) (g : Graph) → slice_get (graph ∷ []) i ≡ Some g → p < length g.kinds → HasState alphabet.nfas i p
      states zero p g e l = (nfa_by edge_group, (refl, (let n : 3 ≡ length g.kinds = ap (λ (h : Graph). length h.kinds) (same_graph g e) in omega (arith, n, l))))
      states (suc i) p g e l = absurd (cc)

      leads_by : (p q c v : ℕ) → (c ≡ 0) × (98 ≤ v) × (v ≤ 100) → ((r : Range) × (Contains graph.edges.tests (test p r q) × Covers r v)) ↔ LeadsBy alphabet 0 p c q
      leads_by p q c v within = (
        λ (r, (edge, low)). (let only = only_edge p q r edge in rw (only.0, only.2, within.0) class_of_the_letters_leads_from_the_third_state),
        λ h. (let only = it_leads_nowhere_else 0 p c q h in (b_to_d, (the_edge p q only.1 only.3, (omega (arith, within.1), omega (arith, within.2))))),
      )

      leads : (i p q k c v : ℕ) (g : Graph) → slice_get (graph ∷ []) i ≡ Some g → p < length g.kinds → IsInCell alphabet.cells k c v
          → ((r : Range) × (Contains g.edges.tests (test p r q) × Covers r v)) ↔ LeadsBy alphabet i p c q
      leads zero p q k c v g e l inside =
          subst (λ (h : Graph). ((r : Range) × (Contains h.edges.tests (test p r q) × Covers r v)) ↔ LeadsBy alphabet 0 p c q) (same_graph g e) (leads_by p q c v (values_of_the_cells k c v inside))
      leads (suc i) p q k c v g e l inside = absurd (cc)

      end_of : (r : Range) (v : ℕ) → b_to_d ≡ r → IsEndOf r v → (v ≡ 98) ⊎ (v ≡ 101)
      end_of r v is (some, end) = elim end [
        | inl e ↦ (let start : 98 ≡ r.start = ap (λ (z : Range). z.start) is in inl (e ∙ sym start))
        | inr e ↦ (let last : 100 ≡ r.end = ap (λ (z : Range). z.end) is in inr (omega (arith, e, last)))
      ]

      first_of : (k v : ℕ) → k ≤ 1 → IsFirstOf two_cells k v → IsEndOf b_to_d v
      first_of zero v l e = (omega arith, inl (sym e))
      first_of (suc zero) v l e = (omega arith, inr (sym e))
      first_of (suc (suc k)) v l e = absurd (omega (arith, l))

      boundaries_of : (p v : ℕ) → ((r : Range) × (q : ℕ) × (Contains graph.edges.tests (test p r q) × IsEndOf r v)) ↔ ((k : ℕ) × (HasBoundaryAt alphabet 0 p k × IsFirstOf two_cells k v))
      boundaries_of p v = (
        λ (r, q, (edge, end)). (let only = only_edge p q r edge in
            elim (end_of r v only.1 end) [
              | inl e ↦ (0, (rw only.0 label_begins_and_is_over.0, sym e))
              | inr e ↦ (1, (rw only.0 label_begins_and_is_over.1, sym e))
            ]),
        λ (k, (boundary, first)). (let only = no_label_ends_elsewhere 0 p k boundary in (b_to_d, 0, (the_edge p 0 only.0 refl, first_of k v only.1 first))),
      )

      boundaries : (i p v : ℕ) (g : Graph) → slice_get (graph ∷ []) i ≡ Some g → p < length g.kinds
          → ((r : Range) × (q : ℕ) × (Contains g.edges.tests (test p r q) × IsEndOf r v)) ↔ ((k : ℕ) × (HasBoundaryAt alphabet i p k × IsFirstOf alphabet.cells k v))
      boundaries zero p v g e l =
          subst (λ (h : Graph). ((r : Range) × (q : ℕ) × (Contains h.edges.tests (test p r q) × IsEndOf r v)) ↔ ((k : ℕ) × (HasBoundaryAt alphabet 0 p k × IsFirstOf two_cells k v))) (same_graph g e) (boundaries_of p v)
      boundaries (suc i) p v g e l = absurd (cc)

  -- ---- what is not an alphabet of it

  missing_automaton : ¬ IsAlphabetOf (graph ∷ graph ∷ []) alphabet
  missing_automaton h = there_is_no_second_automaton (h.states 1 0 graph refl (omega arith))

  -- the value b leads to the first state
  b_leads : (r : Range) × (Contains graph.edges.tests (test 2 r 0) × Covers r 98)
  b_leads = (b_to_d, (the_edge 2 0 refl refl, (omega arith, omega arith)))

  edge_group_to_another_state : ¬ IsAlphabetOf (graph ∷ []) (alphabet_by group (record { group = 0; to = 1 }))
  edge_group_to_another_state h =
      let (l, (by, to, has)) = (h.leads 0 2 0 0 0 98 graph refl (omega arith) first_and_last_value_of_a_cell.0).0 b_leads in
      let target : 1 ≡ l.to = ap (λ (z : EdgeGroup). z.to) (only_edge_group (record { group = 0; to = 1 }) 0 2 l by).2 in
      omega (arith, target, to)

  -- the class of the letters is left out
  abbrev group_of_no_class : Group
  group_of_no_class = group_of (0 ∷ 1 ∷ []) [] (omega arith) (omega arith)

  class_left_out : ¬ IsAlphabetOf (graph ∷ []) (alphabet_by group_of_no_class edge_group)
  class_left_out h =
      let (l, (by, to, (x, (at, has)))) = (h.leads 0 2 0 0 0 98 graph refl (omega arith) first_and_last_value_of_a_cell.0).0 b_leads in
      let (place, inside, e) = subst (λ (z : Group). Contains z.classes.items 0) (sym (only_group group_of_no_class x l.group at).1) has in
      omega (arith, inside)

  -- the cell at which the label is over is left out
  abbrev group_of_one_boundary : Group
  group_of_one_boundary = group_of (0 ∷ []) (0 ∷ []) (omega arith) (omega arith)

  end_left_out : ¬ IsAlphabetOf (graph ∷ []) (alphabet_by group_of_one_boundary edge_group)
  end_left_out h =
      let (k, ((l, (by, (x, (at, has)))), first)) = (h.boundaries 0 2 101 graph refl (omega arith)).0 (b_to_d, 0, (the_edge 2 0 refl refl, ends_of_a_range.1)) in
      no_first k (subst (λ (z : Group). Contains z.boundaries.items k) (sym (only_group group_of_one_boundary x l.group at).1) has) first
    where
      no_first : (k : ℕ) → Contains (0 ∷ []) k → ¬ IsFirstOf two_cells k 101
      no_first zero (place, inside, e) first = omega (arith, first)
      no_first (suc k) (zero, inside, e) first = omega (arith, e)
      no_first (suc k) (suc place, inside, e) first = omega (arith, inside)
