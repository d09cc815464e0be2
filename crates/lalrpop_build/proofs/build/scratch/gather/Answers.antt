use Rattle.std.proofs.Common.{◌≡◌, ◌∙◌, ℕ, List, sym, subst, take, arith}
use Rattle.std.specs.List.{Contains}
use Rattle.std.proofs.lemmas.List.{take_all}
use Rattle.lalrpop_build.specs.Internal.Alphabet.{LeadsBy}
use Rattle.lalrpop_dfa.specs.Ascending.{Item}
use Rattle.lalrpop_build.specs.Internal.ClassTransitions.{Gained, AreBoundariesOf}
use Rattle.lalrpop_hir.proofs.Contained.{contains_none}
use Rattle.lalrpop_build.proofs.Leavings.{gained_none, gained_then, item_more, item_boundaries, all_gathered}
use Rattle.lalrpop_build.proofs.build.scratch.gather.Goals as goal

pub loop-item-init : goal.loop-item-init
loop-item-init c = record {
  boundaries = λ k. ((λ h. absurd (contains_none k (subst (λ (ks : List ℕ). Contains ks k) c.requires.no_boundaries h))), (λ h. absurd (contains_none h.0 h.1.0)));
  classes = gained_none c.args.edges.now.lists.items (λ i l h. contains_none l.item h.0);
  marked = c.requires.marked;
  noted = c.requires.noted;
}

pub add_item-requires-clause-state : goal.add_item-requires-clause-state
add_item-requires-clause-state c = c.requires.states c.item-item.result (c.loop-item.item-index, c.loop-item-test.true, sym c.item-item.is)

pub add_item-requires-clause-classes : goal.add_item-requires-clause-classes
add_item-requires-clause-classes c = omega (arith, c.loop-item.invariant.classes.0, c.requires.classes)

pub loop-item-preserved : goal.loop-item-preserved
loop-item-preserved c = record {
  boundaries = item_boundaries c.args.alphabet.now c.args.items.now c.loop-item.item-index c.item-item.result c.loop-item-test.true c.item-item.is c.loop-item.boundaries.places.items c.add_item.new.boundaries.places.items c.loop-item.invariant.boundaries c.in_ok-add_item.ensures.boundaries;
  classes = gained_then c.args.edges.now.lists.items c.loop-item.edges.lists.items c.add_item.new.edges.lists.items c.loop-item.invariant.classes c.in_ok-add_item.ensures.classes
      (item_more c.args.alphabet.now c.args.items.now c.loop-item.item-index c.item-item.result c.loop-item-test.true c.item-item.is);
  marked = c.in_ok-add_item.ensures.marked;
  noted = c.in_ok-add_item.ensures.tidy.noted;
}

pub returns : goal.returns
returns c =
    let all : take c.loop-item.item-index c.args.items.now ≡ c.args.items.now = take_all c.loop-item.item-index c.args.items.now c.loop-item-test.false in
    record {
      boundaries = subst (λ (xs : List Item). AreBoundariesOf c.args.alphabet.now xs c.loop-item.boundaries.places.items) all c.loop-item.invariant.boundaries;
      classes = all_gathered c.args.alphabet.now c.args.items.now c.args.edges.now.lists.items c.loop-item.edges.lists.items c.requires.classes c.requires.no_edges
          (subst (λ (xs : List Item). Gained c.args.edges.now.lists.items c.loop-item.edges.lists.items (λ i x. Contains xs x.item × LeadsBy c.args.alphabet.now x.item.0 x.item.1 i x.to)) all c.loop-item.invariant.classes);
      marked = c.loop-item.invariant.marked;
      tidy = record {
        noted = c.loop-item.invariant.noted;
        marked = c.loop-item.invariant.marked.marked;
        classes = c.loop-item.invariant.classes.0;
        groups = c.loop-item.invariant.marked.count ∙ sym c.requires.marked.count;
      };
    }

pub returns-in_err-add_item-clause-tidy : goal.returns-in_err-add_item-clause-tidy
returns-in_err-add_item-clause-tidy c =
    let tidy = c.in_err-add_item.ensures.tidy in
    record {
      noted = tidy.noted;
      marked = tidy.marked;
      classes = tidy.classes ∙ c.loop-item.invariant.classes.0;
      groups = tidy.groups ∙ (c.loop-item.invariant.marked.count ∙ sym c.requires.marked.count);
    }
