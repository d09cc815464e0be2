use Rattle.std.proofs.Common.{◌+◌, ◌^◌, ◌<◌, get_or, length, arith, sym, ap, ◌∙◌}
use Rattle.bajofeki.specs.declared.kept.Kept.{Kept}
use Rattle.std.proofs.lemmas.Option.{slice_get_within}
use Rattle.bajofeki.specs.Internal.Kept.{after_kept}
use Rattle.bajofeki.proofs.BlockLaws.{sizes_more, after_more, within_next, sizes_front}
use Rattle.bajofeki.proofs.Starting.{got}
use Rattle.bajofeki.proofs.edit.keep_front.Goals as goal

pub overflow_add-place : goal.overflow_add-place
overflow_add-place c =
    omega (arith, c.reach.ensures.small, c.loop-count.invariant.at, sizes_front c.loop-count.count c.args.pieces.now, c.requires.fits)

pub loop-count-preserved : goal.loop-count-preserved
loop-count-preserved c =
    let d : Kept = record { rule = 0; size = 0; past = 0 } in
    let ks = c.args.pieces.now in
    let i = c.loop-count.count in
    let inv = c.loop-count.invariant in
    let lt : i < length ks = c.loop-count-test.true in
    let more = sizes_more ks i d lt in
    let total = sizes_front (i + 1) ks in
    let fits : c.loop-count.place.at + (get_or ks i d).size < 2 ^ 64 = omega (arith, more, total, inv.at, c.requires.fits) in
    record {
      count = omega (arith, lt);
      at = omega (arith, c.in_ok-pass.ensures.at fits, more, inv.at);
      stack = c.in_ok-pass.ensures.stack ∙ ap (after_kept c.args.lexer.now (get_or ks i d)) inv.stack ∙ sym (after_more c.args.lexer.now ks i d c.args.place.now.stack lt);
      within = within_next c.args.from c.args.place.now.at ks i d lt inv.within (omega (arith, c.if-place-reach.false, c.reach.ensures.reach, inv.at));
    }

pub returns-after-loop-count-clause-first : goal.returns-after-loop-count-clause-first
returns-after-loop-count-clause-first c = λ k found.
    absurd (omega (arith, c.loop-count-test.false, slice_get_within c.args.pieces.now c.loop-count.count k found))

pub returns-then-place-reach-clause-first : goal.returns-then-place-reach-clause-first
returns-then-place-reach-clause-first c = λ k found.
    let d : Kept = record { rule = 0; size = 0; past = 0 } in
    let is = got c.args.pieces.now c.loop-count.count k d found in
    omega (arith, c.if-place-reach.true, c.reach.ensures.reach, ap (λ (x : Kept). x.size) is, ap (λ (x : Kept). x.past) is)
