use Rattle.std.proofs.Common.{◌≡◌, take, map, ap, ◌<◌, length, rules, ◌∙◌, arith}
use Rattle.std.proofs.lemmas.List.{take_all}
use Rattle.lalrpop_dfa.specs.LiveItems.{live_of}
use Rattle.lalrpop_build.specs.Internal.Best.{accepts_with}
use Rattle.lalrpop_build.proofs.LiveItems.{read_live, with_live}
use Rattle.lalrpop_build.proofs.Bests.{item_place}
use Rattle.lalrpop_build.proofs.build.best.accepted_with.Goals as goal

pub is_accepting-requires-clause-inside : goal.is_accepting-requires-clause-inside
is_accepting-requires-clause-inside c =
    let l : c.loop-item.item-index < length c.live-item-items.result.now = search rules in
    read_live c.args.nfas.now c.args.set.now c.live-item-items.result.now c.loop-item.item-index c.item-item.result c.requires.inside c.live-item-items.ensures.value l c.item-item.is

pub bounds-precedences-index : goal.bounds-precedences-index
bounds-precedences-index c =
    let l : c.loop-item.item-index < length c.live-item-items.result.now = search rules in
    let here = item_place c.args.nfas.now c.item-item.result
    (read_live c.args.nfas.now c.args.set.now c.live-item-items.result.now c.loop-item.item-index c.item-item.result c.requires.inside c.live-item-items.ensures.value l c.item-item.is) in
    omega (arith, here, c.index.ensures, c.pattern-pattern.ensures, c.requires.same_len)

pub offset_bounds-precedences-index : goal.offset_bounds-precedences-index
offset_bounds-precedences-index c =
    let l : c.loop-item.item-index < length c.live-item-items.result.now = search rules in
    let here = item_place c.args.nfas.now c.item-item.result
    (read_live c.args.nfas.now c.args.set.now c.live-item-items.result.now c.loop-item.item-index c.item-item.result c.requires.inside c.live-item-items.ensures.value l c.item-item.is) in
    let small : c.index.result < length c.args.precedences.now = omega (arith, here, c.index.ensures, c.pattern-pattern.ensures, c.requires.same_len) in
    search rules

pub returns : goal.returns
returns c =
    let ps = map (λ p. p.0) c.args.precedences.now in
    let all : take c.loop-item.item-index c.live-item-items.result.now ≡ live_of c.args.set.now = take_all c.loop-item.item-index c.live-item-items.result.now c.loop-item-test.false ∙ c.live-item-items.ensures.value in
    c.loop-item.invariant ∙ ap (λ s. accepts_with ps s c.args.precedence) all ∙ with_live ps c.args.set.now c.args.precedence c.requires.ascending
