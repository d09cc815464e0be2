-- What an alphabet says of the items of a set: where their labels begin and are over, and which edges the values take.
use Rattle.std.proofs.Common.{◌≡◌, ℕ, List, length, subst, sym, ◌∙◌}
use Rattle.std.specs.Prelude.{slice_get, Some}
use Rattle.std.specs.List.{Contains}
use Rattle.lalrpop_hir.specs.Range.{Range}
use Rattle.lalrpop_nfa.specs.Graph.{Graph}
use Rattle.lalrpop_nfa.specs.Path.{test}
use Rattle.lalrpop_build.specs.Internal.Alphabet.{Classes, HasState, IsInCell, IsEndOf, IsFirstOf, IsSound, IsAlphabetOf}
use Rattle.lalrpop_dfa.specs.Ascending.{Item}
use Rattle.lalrpop_build.specs.Items.{IsLeaving}
use Rattle.lalrpop_build.specs.Internal.Given.{AreItemsOf}
use Rattle.lalrpop_build.specs.Internal.ClassTransitions.{AreBelow, AreGathered, AreBoundariesOf, IsLaidOut}
use Rattle.lalrpop_build.specs.Internal.Transitions.{AreTransitions}
use Rattle.lalrpop_build.specs.declared.build.scratch.Transitions.{Transitions}

-- the boundaries of items are cells
pub boundaries_below : (a : Classes) (items : List Item) (boundaries : List ℕ) → IsSound a → AreBoundariesOf a items boundaries → AreBelow (length a.cells) boundaries
boundaries_below a items boundaries sound are k h = (let (x, (member, (l, (edge_group, boundary)))) = (are k).0 h in sound.groups.boundaries_in l.group k boundary)

module _ (ns : List Graph) (a : Classes) (alphabet : IsAlphabetOf ns a) (items : List Item) (inside : AreItemsOf ns items) where
  pub have_states : (x : Item) → Contains items x → HasState a.nfas x.0 x.1
  have_states x h = (let (g, (at, l)) = inside x h in alphabet.states x.0 x.1 g at l)

  same_graph : (x : Item) (g k : Graph) → slice_get ns x.0 ≡ Some g → slice_get ns x.0 ≡ Some k → g ≡ k
  same_graph x g k e f = (let h : Some g ≡ Some k = sym e ∙ f in cc)

  module _ (boundaries : List ℕ) (by_class : List Transitions) (boundary : AreBoundariesOf a items boundaries) (gathered : AreGathered a items by_class) where
    end_has_boundary : (v : ℕ) → ((r : Range) × (IsLeaving ns items r × IsEndOf r v)) → (k : ℕ) × (Contains boundaries k × IsFirstOf a.cells k v)
    end_has_boundary v (r, ((x, g, q, (member, at, edge)), end)) =
        let (h, (there, l)) = inside x member in
        let here : Contains h.edges.tests (test x.1 r q) = subst (λ (f : Graph). Contains f.edges.tests (test x.1 r q)) (same_graph x g h at there) edge in
        let (k, (at_boundary, first)) = (alphabet.boundaries x.0 x.1 v h there l).0 (r, q, (here, end)) in
        (k, ((boundary k).1 (x, (member, at_boundary)), first))

    boundary_has_end : (v : ℕ) → ((k : ℕ) × (Contains boundaries k × IsFirstOf a.cells k v)) → (r : Range) × (IsLeaving ns items r × IsEndOf r v)
    boundary_has_end v (k, (h, first)) =
        let (x, (member, at_boundary)) = (boundary k).0 h in
        let (g, (there, l)) = inside x member in
        let (r, q, (edge, end)) = (alphabet.boundaries x.0 x.1 v g there l).1 (k, (at_boundary, first)) in
        (r, ((x, g, q, (member, there, edge)), end))

    taken : (k c v : ℕ) (t : Transitions) → IsInCell a.cells k c v → slice_get by_class c ≡ Some t → AreTransitions ns items v t.list.items
    taken k c v t in_cell at l = (
      λ h.
          let (member, leads) = (gathered.1 c t at l).0 h in
          let (g, (there, within)) = inside l.item member in
          let (r, (edge, over)) = (alphabet.leads l.item.0 l.item.1 l.to k c v g there within in_cell).1 leads in
          (g, r, (member, there, edge, over)),
      λ (g, r, (member, there, edge, over)).
          let (h, (same, within)) = inside l.item member in
          let here : Contains h.edges.tests (test l.item.1 r l.to) = subst (λ (f : Graph). Contains f.edges.tests (test l.item.1 r l.to)) (same_graph l.item g h there same) edge in
          (gathered.1 c t at l).1 (member, (alphabet.leads l.item.0 l.item.1 l.to k c v h same within in_cell).0 (r, (here, over))),
    )

    pub laid_out : IsLaidOut ns items a.cells boundaries by_class
    laid_out = record { ends = λ v. (end_has_boundary v, boundary_has_end v); taken = taken }
