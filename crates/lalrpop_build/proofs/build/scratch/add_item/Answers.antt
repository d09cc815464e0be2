use Rattle.std.proofs.Common.{◌≡◌, ℕ, List, ◌⊎◌, inl, inr, sym, ◌∙◌, subst, refl, take, arith}
use Rattle.std.specs.Prelude.{◌↔◌}
use Rattle.std.specs.List.{Contains}
use Rattle.std.proofs.lemmas.List.{take_all}
use Rattle.lalrpop_build.specs.Internal.Alphabet.{HasState, AreEdgeGroupsOf}
use Rattle.lalrpop_build.specs.declared.alphabet.EdgeGroup.{EdgeGroup}
use Rattle.lalrpop_build.specs.Internal.ClassTransitions.{Gained}
use Rattle.lalrpop_build.specs.declared.transitions.Transition.{Transition}
use Rattle.lalrpop_hir.proofs.Contained.{contains_none}
use Rattle.lalrpop_build.proofs.Leavings.{EdgeTo, EdgeBoundary, gained_none, gained_then, gained_like, edge_more, boundary_more, edges_of_state, boundaries_of_state, edge_there}
use Rattle.lalrpop_build.proofs.build.scratch.add_item.Goals as goal

pub loop-edge-init : goal.loop-edge-init
loop-edge-init c = record {
  boundaries = λ k. ((λ h. inl h), (λ h. elim h [ inl x ↦ x | inr x ↦ absurd (contains_none x.0 x.1.0) ]));
  classes = gained_none c.args.edges.now.lists.items (λ i l h. contains_none h.1.0 h.1.1.0);
  marked = c.requires.marked;
  noted = c.requires.noted;
}

pub edge_groups-edge-items-requires : goal.edge_groups-edge-items-requires
edge_groups-edge-items-requires c = record {
  has_state = subst (λ i. HasState c.args.alphabet.now.nfas i c.state.result) (sym (c.index.ensures.value ∙ c.pattern.ensures)) (subst (λ p. HasState c.args.alphabet.now.nfas c.args.item.0 p) (sym c.state.ensures) c.requires.state);
}

pub group-group-requires : goal.group-group-requires
group-group-requires c = record {
  has_group = c.edge_groups-edge-items.ensures.sound.groups_in c.index.result c.state.result c.edge-item.result
      (edge_there c.args.alphabet.now.nfas c.index.result c.state.result c.edge_groups-edge-items.result.now c.loop-edge.edge-index c.edge-item.result c.edge_groups-edge-items.ensures.edge_groups c.loop-edge-test.true c.edge-item.is);
}

pub add_to_all-requires-clause-within : goal.add_to_all-requires-clause-within
add_to_all-requires-clause-within c k h =
    let below = c.edge_groups-edge-items.ensures.sound.groups.classes_in c.edge-item.result.group k (c.group-group.result.now, (c.group-group.ensures.group, subst (λ (ks : List ℕ). Contains ks k) c.deref.ensures.value h)) in
    omega (arith, below, c.requires.classes, c.loop-edge.invariant.classes.0)

pub loop-edge-preserved : goal.loop-edge-preserved
loop-edge-preserved c =
    let edge : Transition = record { item = c.args.item; to = c.edge-item.result.to } in
    let got = subst (λ (cs : List ℕ). Gained c.loop-edge.edges.lists.items c.add_to_all.new.self.lists.items (λ i l. Contains cs i × (l ≡ edge))) c.deref.ensures.value c.in_ok-add_to_all.ensures.gained in
    record {
      boundaries = λ j. boundary_more c.args.alphabet.now.groups c.edge_groups-edge-items.result.now c.loop-edge.edge-index c.edge-item.result c.loop-edge-test.true c.edge-item.is c.args.boundaries.now.places.items c.loop-edge.boundaries.places.items c.add.new.self.places.items j (c.loop-edge.invariant.boundaries j) (c.in_ok-add.ensures.boundaries j);
      marked = c.in_ok-add.ensures.marked;
      classes = gained_then c.args.edges.now.lists.items c.loop-edge.edges.lists.items c.add_to_all.new.self.lists.items c.loop-edge.invariant.classes got
          (edge_more c.args.alphabet.now.groups c.edge_groups-edge-items.result.now c.loop-edge.edge-index c.edge-item.result c.loop-edge-test.true c.edge-item.is c.group-group.result.now c.group-group.ensures.group c.args.item edge refl);
      noted = c.in_ok-add_to_all.ensures.noted;
    }

pub returns : goal.returns
returns c =
    let nfas = c.args.alphabet.now.nfas in
    let edge_groups = c.edge_groups-edge-items.result.now in
    let all : take c.loop-edge.edge-index edge_groups ≡ edge_groups = take_all c.loop-edge.edge-index edge_groups c.loop-edge-test.false in
    let are : AreEdgeGroupsOf nfas c.args.item.0 c.args.item.1 edge_groups =
    subst (λ i. AreEdgeGroupsOf nfas i c.args.item.1 edge_groups) (c.index.ensures.value ∙ c.pattern.ensures) (subst (λ p. AreEdgeGroupsOf nfas c.index.result p edge_groups) c.state.ensures c.edge_groups-edge-items.ensures.edge_groups) in
    record {
      boundaries = boundaries_of_state c.args.alphabet.now c.args.item.0 c.args.item.1 edge_groups c.args.boundaries.now.places.items c.loop-edge.boundaries.places.items are
          (subst (λ (ls : List EdgeGroup). (k : ℕ) → Contains c.loop-edge.boundaries.places.items k ↔ (Contains c.args.boundaries.now.places.items k ⊎ EdgeBoundary c.args.alphabet.now.groups ls k)) all c.loop-edge.invariant.boundaries);
      classes = gained_like c.args.edges.now.lists.items c.loop-edge.edges.lists.items
          (subst (λ (ls : List EdgeGroup). Gained c.args.edges.now.lists.items c.loop-edge.edges.lists.items (λ i x. (x.item ≡ c.args.item) × EdgeTo c.args.alphabet.now.groups ls i x.to)) all c.loop-edge.invariant.classes)
          (edges_of_state c.args.alphabet.now c.args.item edge_groups are);
      marked = c.loop-edge.invariant.marked;
      tidy = record {
        noted = c.loop-edge.invariant.noted;
        marked = c.loop-edge.invariant.marked.marked;
        classes = c.loop-edge.invariant.classes.0;
        groups = c.loop-edge.invariant.marked.count ∙ sym c.requires.marked.count;
      };
    }

pub returns-in_err-add-clause-tidy : goal.returns-in_err-add-clause-tidy
returns-in_err-add-clause-tidy c = record {
  noted = c.loop-edge.invariant.noted;
  marked = c.in_err-add.ensures.listed;
  classes = c.loop-edge.invariant.classes.0;
  groups = c.in_err-add.ensures.count ∙ (c.loop-edge.invariant.marked.count ∙ sym c.requires.marked.count);
}

pub returns-in_err-add_to_all-clause-tidy : goal.returns-in_err-add_to_all-clause-tidy
returns-in_err-add_to_all-clause-tidy c = record {
  noted = c.in_err-add_to_all.ensures.noted;
  marked = c.in_ok-add.ensures.marked.marked;
  classes = c.in_err-add_to_all.ensures.count ∙ c.loop-edge.invariant.classes.0;
  groups = c.in_ok-add.ensures.marked.count ∙ sym c.requires.marked.count;
}
