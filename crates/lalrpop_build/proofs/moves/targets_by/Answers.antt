use Rattle.std.proofs.Common.{◌≡◌, List, subst, take}
use Rattle.std.proofs.lemmas.List.{take_all}
use Rattle.std.proofs.lemmas.List.Filters.{dedup_is}
use Rattle.lalrpop_dfa.specs.Ascending.{Item}
use Rattle.lalrpop_dfa.specs.ItemOrder.{item_eq}
use Rattle.lalrpop_build.specs.Internal.Taken.{AreTargetsBy}
use Rattle.lalrpop_build.proofs.TakenEdges.{walked_none, walked_more, once_targets, once_by_pattern}
use Rattle.lalrpop_build.proofs.moves.targets_by.Goals as goal

pub loop-item-init : goal.loop-item-init
loop-item-init c = walked_none c.args.nfas.now c.args.items.now c.args.transitions.now c.clear.new.self.items c.requires.leave c.clear.ensures.items

pub returns : goal.returns
returns c =
    let once = dedup_is item_eq c.loop-item.targets.items c.dedup.new.self.items c.dedup.ensures.filtered in
    let all : take c.loop-item.item-index c.args.items.now ≡ c.args.items.now = take_all c.loop-item.item-index c.args.items.now c.loop-item-test.false in
    record {
      targets = once_targets c.args.nfas.now c.args.items.now c.args.transitions.now c.loop-item.targets.items c.dedup.new.self.items once
          (subst (λ (xs : List Item). AreTargetsBy c.args.nfas.now xs c.args.transitions.now c.loop-item.targets.items) all c.loop-item.invariant.targets_are);
      by_pattern = once_by_pattern c.loop-item.targets.items c.dedup.new.self.items once c.loop-item.invariant.by_pattern;
    }

pub loop-item-preserved : goal.loop-item-preserved
loop-item-preserved c =
    walked_more c.args.nfas.now c.args.items.now c.args.transitions.now c.loop-item.item-index c.loop-item.from c.end_of_item-end.result c.item-item.result c.loop-item.targets.items c.push_targets.new.targets.items
    c.requires.ascending c.requires.sorted c.loop-item-test.true c.item-item.is c.loop-item.invariant c.end_of_item-end.ensures c.in_ok-push_targets.ensures
