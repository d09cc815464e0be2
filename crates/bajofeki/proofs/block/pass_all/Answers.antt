use Rattle.std.proofs.Common.{◌≡◌, ◌+◌, ◌-◌, ◌^◌, ◌<◌, ◌≤◌, get_or, length, take, arith, sym, ap, ◌∙◌}
use Rattle.bajofeki.specs.declared.kept.Kept.{Kept}
use Rattle.bajofeki.specs.Internal.Kept.{after_kept}
use Rattle.bajofeki.specs.Internal.Blocks.{sizes}
use Rattle.bajofeki.proofs.KeptLaws.{within_more}
use Rattle.bajofeki.proofs.BlockLaws.{sizes_more, after_more, within_next, within_before, sizes_front}
use Rattle.bajofeki.proofs.block.pass_all.Goals as goal

pub overflow_add-place : goal.overflow_add-place
overflow_add-place c =
    omega (arith, c.reach.ensures.small, c.loop-piece.invariant.at, sizes_front c.loop-piece.piece-index c.args.pieces.now, c.requires.fits)

pub loop-piece-preserved : goal.loop-piece-preserved
loop-piece-preserved c =
    let d : Kept = record { rule = 0; size = 0; past = 0 } in
    let ks = c.args.pieces.now in
    let i = c.loop-piece.piece-index in
    let inv = c.loop-piece.invariant in
    let lt : i < length ks = c.loop-piece-test.true in
    let more = sizes_more ks i d lt in
    let total = sizes_front (i + 1) ks in
    let fits : c.loop-piece.place.at + (get_or ks i d).size < 2 ^ 64 = omega (arith, more, total, inv.at, c.requires.fits) in
    let here : c.loop-piece.place.at - c.args.place.now.at ≡ sizes (take i ks) = omega (arith, inv.at) in
    let far : 0 + sizes (take i ks) + c.reach.result ≤ c.max-reach.result = omega (arith, here, c.max-reach.ensures) in
    record {
      at = omega (arith, c.in_ok-pass.ensures.at fits, more, inv.at);
      stack = c.in_ok-pass.ensures.stack ∙ ap (after_kept c.args.lexer.now (get_or ks i d)) inv.stack ∙ sym (after_more c.args.lexer.now ks i d c.args.place.now.stack lt);
      within =
          within_next c.max-reach.result 0 ks i d lt
          (within_more c.loop-piece.reach c.max-reach.result 0 (take i ks) (omega (arith, c.max-reach.ensures)) inv.within)
          (omega (arith, far, c.reach.ensures.reach));
      least = λ n are.
          let before = within_before n 0 ks i d lt are in
          omega (arith, c.max-reach.ensures, inv.least n before.0, before.1, here, c.reach.ensures.reach);
    }
