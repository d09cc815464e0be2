use Rattle.std.proofs.Common.{◌≡◌, ℕ, List, get_or, length, arith, refl, sym, ap, ◌∙◌}
use Rattle.bajofeki.specs.declared.kept.Kept.{Kept}
use Rattle.bajofeki.specs.declared.block.Block.{Block}
use Rattle.std.proofs.lemmas.Option.{slice_get_read}
use Rattle.std.specs.Prelude.{slice_get, Some}
use Rattle.bajofeki.specs.Internal.Blocks.{pieces_in}
use Rattle.bajofeki.proofs.BlockLaws.{block_at, spot_room, spot_next, spot_further}
use Rattle.bajofeki.proofs.meet.next_piece.Goals as goal

pub overflow_add-spot-then-spot-len : goal.overflow_add-spot-then-spot-len
overflow_add-spot-then-spot-len c =
    let bs = c.args.blocks.now in
    let n = c.loop-spot.spot.block in
    let b = get_or bs n c.index-blocks-spot.result in
    let here = block_at bs n c.index-blocks-spot.result c.loop-spot-test.true in
    omega (
      arith,
      c.requires.fits,
      spot_room bs n c.loop-spot.spot.piece c.loop-spot.spot.count c.loop-spot.invariant.spot
          (omega (arith, ap length here, c.if-spot-len.true, c.len.ensures, b.pieces.ok.0)),
    )

pub returns-then-spot-len-clause-spot : goal.returns-then-spot-len-clause-spot
returns-then-spot-len-clause-spot c =
    let bs = c.args.blocks.now in
    let n = c.loop-spot.spot.block in
    let b = get_or bs n c.index-blocks-spot.result in
    let inv = c.loop-spot.invariant.spot in
    let here = block_at bs n c.index-blocks-spot.result c.loop-spot-test.true in
    record {
      block_in = inv.block_in;
      piece_in = omega (arith, ap length here, c.if-spot-len.true, c.len.ensures, b.pieces.ok.0);
      count_is = omega (arith, inv.count_is);
    }

pub returns-then-spot-len-clause-some : goal.returns-then-spot-len-clause-some
returns-then-spot-len-clause-some c =
    let bs = c.args.blocks.now in
    let n = c.loop-spot.spot.block in
    let b = get_or bs n c.index-blocks-spot.result in
    let here = block_at bs n c.index-blocks-spot.result c.loop-spot-test.true in
    let k = c.index-piece.result.now in
    let at : slice_get b.pieces.items c.loop-spot.spot.piece ≡ Some k =
    slice_get_read b.pieces.items (length b.pieces.items) c.loop-spot.spot.piece k refl (omega (arith, c.if-spot-len.true, c.len.ensures, b.pieces.ok.0)) c.index-piece.ensures in
    let next : slice_get (pieces_in bs) c.loop-spot.spot.count ≡ Some k =
    spot_next bs n c.loop-spot.spot.piece c.loop-spot.spot.count c.loop-spot.invariant.spot k (ap (λ (ks : List Kept). slice_get ks c.loop-spot.spot.piece) here ∙ at) in
    (omega (arith, c.loop-spot.invariant.count), ap (λ (i : ℕ). slice_get (pieces_in bs) i) (sym c.loop-spot.invariant.count) ∙ next)

pub loop-spot-preserved : goal.loop-spot-preserved
loop-spot-preserved c =
    let bs = c.args.blocks.now in
    let n = c.loop-spot.spot.block in
    let b = get_or bs n c.index-blocks-spot.result in
    let inv = c.loop-spot.invariant in
    let here = block_at bs n c.index-blocks-spot.result c.loop-spot-test.true in
    record {
      spot =
          spot_further bs n c.loop-spot.spot.piece c.loop-spot.spot.count inv.spot c.index-blocks-spot.result c.index-blocks-spot.is c.loop-spot-test.true
          (omega (arith, ap length here, inv.spot.piece_in, c.if-spot-len.false, c.len.ensures, b.pieces.ok.0, ap (λ (x : Block). length x.pieces.items) c.index-blocks-spot.is));
      block = omega (arith, inv.block);
      count = inv.count;
    }
