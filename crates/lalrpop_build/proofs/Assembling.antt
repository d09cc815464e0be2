-- The alphabet of automata, from the lists of their labels and the classes of these lists.
use Rattle.std.proofs.Common.{◌≡◌, ℕ, ◌<◌, List, length, get_or, refl, sym, subst, ap, ◌∙◌, arith, Some}
use Rattle.std.specs.Prelude.{slice_get}
use Rattle.std.specs.List.{Contains}
use Rattle.std.proofs.lemmas.Option.{slice_get-get_or}
use Rattle.lalrpop_hir.specs.Range.{Range, Covers}
use Rattle.lalrpop_nfa.specs.Graph.{Graph}
use Rattle.lalrpop_nfa.specs.Path.{test}
use Rattle.lalrpop_build.specs.Internal.Alphabet.{Classes, IsInCell, LeadsBy, HasBoundaryAt, IsEndOf, IsFirstOf, HasClass, HasBoundary, HasState, AreCells, AreGroups, IsSound, IsAlphabetOf}
use Rattle.lalrpop_build.specs.Internal.Grouped.{LeadsTo, AreGrouped, AreClasses}
use Rattle.lalrpop_build.specs.declared.alphabet.groups.Labels.{Labels}

-- what is read from a list is in it
pub at : {X : Type 0} (xs : List X) (k : ℕ) (x : X) → k < length xs → x ≡ get_or xs k x → slice_get xs k ≡ Some x
at xs k x l e = slice_get-get_or xs k x l ∙ ap (λ y. Some y) (sym e)

module _ (ns : List Graph) (lists : List Labels) (a : Classes) (given : AreGrouped ns lists a.nfas) (classes : AreClasses lists a.cells a.groups) (i p : ℕ) (g : Graph) (at : slice_get ns i ≡ Some g) (within : p < length g.kinds) where
  has_state : HasState a.nfas i p
  has_state = (let s = given.states i g at in (s.0, (s.1.0, omega (arith, s.1.1, within))))

  leads_to : (q k c v : ℕ) → IsInCell a.cells k c v → ((r : Range) × (Contains g.edges.tests (test p r q) × Covers r v)) → LeadsBy a i p c q
  leads_to q k c v in_cell (r, (edge, over)) =
      let (n, ((l, (edge_group, group, to)), label)) = (given.labels i p q r g at within).0 edge in
      let has : HasClass a.groups n c = (classes.covers n k c v (given.lists_in i p n q (l, (edge_group, group, to))) in_cell).0 (r, (label, over)) in
      (l, (edge_group, to, subst (λ (m : ℕ). HasClass a.groups m c) (sym group) has))

  leads_from : (q k c v : ℕ) → IsInCell a.cells k c v → LeadsBy a i p c q → ((r : Range) × (Contains g.edges.tests (test p r q) × Covers r v))
  leads_from q k c v in_cell (l, (edge_group, to, has)) =
      let edge_groups : LeadsTo a.nfas i p l.group q = (l, (edge_group, refl, to)) in
      let (r, (label, over)) = (classes.covers l.group k c v (given.lists_in i p l.group q edge_groups) in_cell).1 has in
      (r, ((given.labels i p q r g at within).1 (l.group, (edge_groups, label)), over))

  boundaries_to : (v : ℕ) → ((r : Range) × (q : ℕ) × (Contains g.edges.tests (test p r q) × IsEndOf r v)) → (k : ℕ) × (HasBoundaryAt a i p k × IsFirstOf a.cells k v)
  boundaries_to v (r, q, (edge, end)) =
      let (n, ((l, (edge_group, group, to)), label)) = (given.labels i p q r g at within).0 edge in
      let (k, (boundary, first)) = (classes.boundaries n v (given.lists_in i p n q (l, (edge_group, group, to)))).0 (r, (label, end)) in
      (k, ((l, (edge_group, subst (λ (m : ℕ). HasBoundary a.groups m k) (sym group) boundary)), first))

  boundaries_from : (v : ℕ) → ((k : ℕ) × (HasBoundaryAt a i p k × IsFirstOf a.cells k v)) → (r : Range) × (q : ℕ) × (Contains g.edges.tests (test p r q) × IsEndOf r v)
  boundaries_from v (k, ((l, (edge_group, boundary)), first)) =
      let edge_groups : LeadsTo a.nfas i p l.group l.to = (l, (edge_group, refl, refl)) in
      let (r, (label, end)) = (classes.boundaries l.group v (given.lists_in i p l.group l.to edge_groups)).1 (k, (boundary, first)) in
      (r, l.to, ((given.labels i p l.to r g at within).1 (l.group, (edge_groups, label)), end))

pub is_alphabet : (ns : List Graph) (lists : List Labels) (a : Classes) → AreGrouped ns lists a.nfas → AreClasses lists a.cells a.groups → IsAlphabetOf ns a
is_alphabet ns lists a given classes = record {
  states = λ i p g at within. has_state ns lists a given classes i p g at within;
  leads = λ i p q k c v g at within in_cell. (leads_to ns lists a given classes i p g at within q k c v in_cell, leads_from ns lists a given classes i p g at within q k c v in_cell);
  boundaries = λ i p v g at within. (boundaries_to ns lists a given classes i p g at within v, boundaries_from ns lists a given classes i p g at within v);
}

pub is_sound : (ns : List Graph) (lists : List Labels) (a : Classes) → AreGrouped ns lists a.nfas → AreClasses lists a.cells a.groups → AreCells a.cells a.count → AreGroups a.groups a.cells a.count → IsSound a
is_sound ns lists a given classes cells groups = record {
  cells = cells;
  groups = groups;
  groups_in = λ i p l edge_group. omega (arith, classes.same_length, given.lists_in i p l.group l.to (l, (edge_group, refl, refl)));
}
