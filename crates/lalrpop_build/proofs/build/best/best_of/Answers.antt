use Rattle.std.proofs.Common.{◌≡◌, take, ap, ◌<◌, length, rules, ◌∙◌, arith, map, get_or, sym, subst}
use Rattle.lalrpop_dfa.specs.Ascending.{AreAscendingItems}
use Rattle.lalrpop_dfa.specs.LiveItems.{live_of}
use Rattle.std.proofs.lemmas.List.{take_all}
use Rattle.lalrpop_build.specs.Internal.Best.{IsBest, accepts}
use Rattle.lalrpop_build.proofs.LiveItems.{live_rises, read_live, accepts_live}
use Rattle.lalrpop_build.proofs.Bests.{item_place, best_taken, best_passed, weight_at}
use Rattle.lalrpop_build.proofs.build.best.best_of.Goals as goal
use Rattle.lalrpop_build.proofs.build.best.best_of.Goals.{then-is_accepting, else-is_accepting}

pub bounds-precedences-index : goal.bounds-precedences-index
bounds-precedences-index c =
    let l : c.loop-item.item-index < length c.live-item-items.result.now = search rules in
    let here = item_place c.args.nfas.now c.item-item.result
    (read_live c.args.nfas.now c.args.set.now c.live-item-items.result.now c.loop-item.item-index c.item-item.result c.requires.inside c.live-item-items.ensures.value l c.item-item.is) in
    omega (arith, here, c.index.ensures, c.pattern-pattern.ensures, c.requires.same_len)

pub offset_bounds-precedences-index : goal.offset_bounds-precedences-index
offset_bounds-precedences-index c =
    let l : c.loop-item.item-index < length c.live-item-items.result.now = search rules in
    let here = item_place c.args.nfas.now c.item-item.result
    (read_live c.args.nfas.now c.args.set.now c.live-item-items.result.now c.loop-item.item-index c.item-item.result c.requires.inside c.live-item-items.ensures.value l c.item-item.is) in
    let small : c.index.result < length c.args.precedences.now = omega (arith, here, c.index.ensures, c.pattern-pattern.ensures, c.requires.same_len) in
    search rules

pub loop-item-preserved : goal.loop-item-preserved
loop-item-preserved c =
    let l : c.loop-item.item-index < length c.live-item-items.result.now = search rules in
    let here = item_place c.args.nfas.now c.item-item.result
    (read_live c.args.nfas.now c.args.set.now c.live-item-items.result.now c.loop-item.item-index c.item-item.result c.requires.inside c.live-item-items.ensures.value l c.item-item.is) in
    let small : c.item-item.result.0 < length c.args.precedences.now = omega (arith, here, c.requires.same_len) in
    elim c.if-is_accepting.branch [
      | then-is_accepting w ↦
          rw (w.best-is, w.raise.ensures, w.index.ensures.value, w.pattern-pattern.ensures)
          (best_taken (map (λ p. p.0) c.args.precedences.now) c.live-item-items.result.now c.loop-item.item-index (get_or c.args.precedences.now c.item-item.result.0 (record { 0 = 0 })).0 c.item-item.result c.loop-item.best
          (subst AreAscendingItems (sym c.live-item-items.ensures.value) (live_rises c.args.set.now c.requires.ascending)) l c.item-item.is (sym c.is_accepting.ensures ∙ w.if-is_accepting.true)
          (weight_at (λ p. p.0) c.args.precedences.now c.item-item.result.0 (record { 0 = 0 }) small) c.loop-item.invariant)
      | else-is_accepting w ↦
          rw w.best-is
          (best_passed (map (λ p. p.0) c.args.precedences.now) c.live-item-items.result.now c.loop-item.item-index c.item-item.result c.loop-item.best l c.item-item.is (sym c.is_accepting.ensures ∙ w.if-is_accepting.false) c.loop-item.invariant)
    ]

pub is_accepting-requires-clause-inside : goal.is_accepting-requires-clause-inside
is_accepting-requires-clause-inside c =
    let l : c.loop-item.item-index < length c.live-item-items.result.now = search rules in
    read_live c.args.nfas.now c.args.set.now c.live-item-items.result.now c.loop-item.item-index c.item-item.result c.requires.inside c.live-item-items.ensures.value l c.item-item.is

pub returns : goal.returns
returns c =
    let all : take c.loop-item.item-index c.live-item-items.result.now ≡ live_of c.args.set.now = take_all c.loop-item.item-index c.live-item-items.result.now c.loop-item-test.false ∙ c.live-item-items.ensures.value in
    let same : accepts (live_of c.args.set.now) ≡ accepts c.args.set.now = accepts_live c.args.set.now c.requires.ascending in
    subst (λ is. IsBest (map (λ p. p.0) c.args.precedences.now) is c.loop-item.best) (ap accepts all ∙ same) c.loop-item.invariant
