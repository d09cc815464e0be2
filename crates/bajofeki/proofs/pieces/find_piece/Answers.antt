use Rattle.std.proofs.Common.{arith}
use Rattle.bajofeki.specs.declared.kept.Kept.{Kept}
use Rattle.bajofeki.proofs.BlockLaws.{sizes_more}
use Rattle.bajofeki.proofs.pieces.find_piece.Goals as goal

pub loop-piece-preserved : goal.loop-piece-preserved
loop-piece-preserved c =
    let d : Kept = record { rule = 0; size = 0; past = 0 } in
    let more = sizes_more c.args.pieces.now c.loop-piece.piece-index d c.loop-piece-test.true in
    (omega (arith, c.loop-piece.invariant.0, more), omega (arith, c.loop-piece.invariant.1, c.if-at-begins.false))
