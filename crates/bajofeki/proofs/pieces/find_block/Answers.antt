use Rattle.std.proofs.Common.{length, refl, arith}
use Rattle.std.proofs.lemmas.Option.{slice_get_read}
use Rattle.bajofeki.proofs.Finding.{block_passed}
use Rattle.bajofeki.proofs.pieces.find_block.Goals as goal

pub loop-block-preserved : goal.loop-block-preserved
loop-block-preserved c =
    let bs = c.args.blocks.now in
    let n = c.loop-block.block-index in
    let block = c.block-item.result in (
      block_passed bs n block c.loop-block.begins (slice_get_read bs (length bs) n block refl c.loop-block-test.true c.block-item.is) c.loop-block.invariant.0,
      omega (arith, c.loop-block.invariant.1, c.if-at-begins.false),
    )
