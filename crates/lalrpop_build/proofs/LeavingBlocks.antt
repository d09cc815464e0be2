-- The runs of the labels that leave a set of items: a value in no run is not covered, and values of one run lead to one set.
use Rattle.std.proofs.Common.{◌≡◌, ℕ, ◌↔◌, inl, inr, List, map, filter, refl, ap₂, sym, subst, true, ◌==◌, eqb-true, eq-eqb, Some}
use Rattle.std.specs.List.{Contains, slice_get, flat_map}
use Rattle.std.proofs.lemmas.Option.{slice_get_cases}
use Rattle.std.proofs.lemmas.List.{get_or_past}
use Rattle.lalrpop_hir.specs.Range.{Range, Covers}
use Rattle.lalrpop_nfa.specs.Partition.{IsCovered, IsPartition}
use Rattle.lalrpop_nfa.proofs.BlockCover.{block_of_covered}
use Rattle.lalrpop_nfa.specs.declared.edge.Edge.{Edge}
use Rattle.lalrpop_nfa.specs.Graph.{Graph}
use Rattle.lalrpop_nfa.specs.Path.{test}
use Rattle.lalrpop_dfa.specs.Ascending.{Item}
use Rattle.lalrpop_build.specs.Items.{IsLeaving}
use Rattle.lalrpop_build.specs.Internal.Subsets.{no_graph, graph_at, move}
use Rattle.lalrpop_hir.proofs.Members.{Has, has_from, contains_from, has_filter, filter_has, has_map, map_has, has_flat_map, flat_map_has}
use Rattle.lalrpop_build.proofs.Targets.{graph_is}
use Rattle.lalrpop_build.proofs.Dead.{alike_moves}

-- the labels that leave a set, in a list
labels_from : List Graph → Item → List Range
labels_from ns x = map (λ (e : Edge Range). e.label) (filter (λ (e : Edge Range). e.from == x.1) (graph_at ns x.0).edges.tests)

module _ (ns : List Graph) (s : List Item) where
  leaving_has : (r : Range) → IsLeaving ns s r → Has (flat_map (labels_from ns) s) r
  unfolding labels_from
  leaving_has r l =
      let x : Item = l.0 in
      let f : Graph = graph_at ns x.0 in
      let h : Has f.edges.tests (test x.1 r l.2) = subst (λ (g : Graph). Has g.edges.tests (test x.1 r l.2)) (sym (graph_is ns x.0 l.1 l.3.1)) (has_from l.1.edges.tests (test x.1 r l.2) l.3.2) in
      has_flat_map (labels_from ns) s x r (has_from s x l.3.0)
      (has_map (λ (e : Edge Range). e.label) (filter (λ (e : Edge Range). e.from == x.1) f.edges.tests) (test x.1 r l.2)
      (has_filter (λ (e : Edge Range). e.from == x.1) f.edges.tests (test x.1 r l.2) h (eq-eqb x.1 x.1 refl)))

  has_leaving : (r : Range) → Has (flat_map (labels_from ns) s) r → IsLeaving ns s r
  unfolding labels_from
  has_leaving r h =
      let m : (x : Item) × (Has s x × Has (labels_from ns x) r) = flat_map_has (labels_from ns) s r h in
      let x : Item = m.0 in
      let f : Graph = graph_at ns x.0 in
      let a : (e : Edge Range) × (Has (filter (λ (e : Edge Range). e.from == x.1) f.edges.tests) e × (e.label ≡ r)) =
      map_has (λ (e : Edge Range). e.label) (filter (λ (e : Edge Range). e.from == x.1) f.edges.tests) r m.1.1 in
      let e : Edge Range = a.0 in
      let b : Has f.edges.tests e × ((e.from == x.1) ≡ true) = filter_has (λ (e : Edge Range). e.from == x.1) f.edges.tests e a.1.0 in
      let same : e ≡ test x.1 r e.to = ap₂ (λ (i : ℕ) (l : Range). test i l e.to) (eqb-true e.from x.1 b.1) a.1.1 in
      elim (slice_get_cases ns x.0).1 [
        | inl y ↦ (let at : slice_get ns x.0 ≡ Some f = rw (graph_is ns x.0 y.0 y.2) y.2 in
            (x, f, e.to, (contains_from s x m.1.0, at, contains_from f.edges.tests (test x.1 r e.to) (rw same at b.0))))
        | inr past ↦ (let none : f ≡ no_graph = get_or_past ns x.0 no_graph past.0 in
            absurd (subst (λ (g : Graph). Has g.edges.tests e) none b.0))
      ]

  module _ (xs : List Range) (a : IsPartition (IsLeaving ns s) xs) where
    -- a value in no run is not covered
    pub outside_blocks : (c : ℕ) → ((x : Range) → Contains xs x → Covers x c → ⊥) → IsCovered (IsLeaving ns s) c → ⊥
    outside_blocks c none held =
        let labels : List Range = flat_map (labels_from ns) s in
        let same : (r : Range) → IsLeaving ns s r ↔ Contains labels r =
        λ r. ((λ l. contains_from labels r (leaving_has r l)), (λ h. has_leaving r (has_from labels r h))) in
        let r = block_of_covered (IsLeaving ns s) labels same xs a c held in
        none r.0 r.1.0 r.1.1

    -- values of one run lead to the same set
    pub inside_block : (x : Range) (c d : ℕ) → Contains xs x → Covers x c → Covers x d → move ns s c ≡ move ns s d
    inside_block x c d h k l = alike_moves ns s c d ((a.are_blocks x h).uniform.constant c d k l)
