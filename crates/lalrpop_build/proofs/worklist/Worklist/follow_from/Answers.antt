use Rattle.std.proofs.Common.{◌≡◌, ◌<◌, ◌+◌, ◌∙◌, ◌∷◌, [], ◌++◌, take, length, take_all, rules, sym, ap, arith}
use Rattle.std.proofs.lemmas.List.{take_more}
use Rattle.std.proofs.lemmas.List.Elements.{Contains-push}
use Rattle.lalrpop_build.proofs.Inserting.{inserted_then}
use Rattle.lalrpop_build.proofs.WorklistSteps.{nil_from, given_closed, targets_closed, closing_start, closing_step, closing_less, closing_done}
use Rattle.lalrpop_build.proofs.worklist.Worklist.follow_from.Goals as goal

pub insert-requires : goal.insert-requires
insert-requires g c =
    let l : c.loop-first.first-index < length c.args.given.now = search rules in
    let x = c.first-item.result in
    c.loop-first.invariant.room x (c.requires.room x (given_closed c.args.nfas.now c.args.given.now x c.requires.inside (c.loop-first.first-index, l, sym c.first-item.is)))

pub loop-first-preserved : goal.loop-first-preserved
loop-first-preserved g c =
    let l : c.loop-first.first-index < length c.args.given.now = search rules in
    let more : take (c.loop-first.first-index + 1) c.args.given.now ≡ take c.loop-first.first-index c.args.given.now ++ c.first-item.result ∷ [] =
    take_more c.args.given.now c.loop-first.first-index c.first-item.result l ∙ ap (λ y. take c.loop-first.first-index c.args.given.now ++ y ∷ []) (sym c.first-item.is) in
    record {
      inserted = rw more (inserted_then _ _ (take c.loop-first.first-index c.args.given.now) _ _ _ _ _ c.loop-first.invariant.inserted c.in_ok-insert.ensures.inserted);
      room = λ x h. c.in_ok-insert.ensures.room x (c.loop-first.invariant.room x h);
    }

pub loop-item-init : goal.loop-item-init
loop-item-init g c = record {
  closing = closing_start c.args.nfas.now c.args.given.now _ _ _ _ c.requires.empty c.clear.ensures.items c.requires.inside (rw (take_all c.loop-first.first-index c.args.given.now (omega arith)) at c.loop-first.invariant.inserted);
  room = λ x h. c.loop-first.invariant.room x (c.requires.room x h);
}

pub follow-requires-clause-inside : goal.follow-requires-clause-inside
follow-requires-clause-inside g c =
    let k = c.loop-item.invariant.closing in
    k.within c.in-Some.item (k.pending_in c.in-Some.item (rw c.in-Some.ensures.items (Contains-push c.pop.new.self.items c.in-Some.item)))

pub follow-requires-clause-room : goal.follow-requires-clause-room
follow-requires-clause-room g c y h =
    c.loop-item.invariant.room y (targets_closed c.args.nfas.now c.args.given.now _ _ _ c.in-Some.item y c.requires.automata c.in-Some.ensures.items c.loop-item.invariant.closing h)

pub loop-item-smaller : goal.loop-item-smaller
loop-item-smaller g c =
    closing_less c.args.nfas.now c.args.given.now _ _ _ c.in-Some.item _ _ c.in-Some.ensures.items
    (closing_step c.args.nfas.now c.args.given.now _ _ _ c.in-Some.item _ _ c.requires.automata c.in-Some.ensures.items c.loop-item.invariant.closing c.in_ok-follow.ensures.inserted)
    c.in_ok-follow.ensures.inserted

pub loop-item-preserved : goal.loop-item-preserved
loop-item-preserved g c = record {
  closing = closing_step c.args.nfas.now c.args.given.now _ _ _ c.in-Some.item _ _ c.requires.automata c.in-Some.ensures.items c.loop-item.invariant.closing c.in_ok-follow.ensures.inserted;
  room = λ x h. c.in_ok-follow.ensures.room x (c.loop-item.invariant.room x h);
}

pub returns : goal.returns
returns g c =
    let empty : length c.loop-item.self.pending.items ≡ 0 = omega (arith, c.in_default.ensures.cases.0, c.loop-item.self.pending.ok.0) in
    closing_done c.args.nfas.now c.args.given.now _ _ (nil_from c.loop-item.self.pending.items empty) c.loop-item.invariant.closing
