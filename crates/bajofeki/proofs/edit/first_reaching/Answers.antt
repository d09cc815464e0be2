use Rattle.std.proofs.Common.{◌≡◌, ◌+◌, ◌<◌, length, arith, ap, ◌∙◌}
use Rattle.bajofeki.specs.declared.block.Block.{Block}
use Rattle.bajofeki.proofs.Starting.{got, sizes_to, counts_to, sizes_within, counts_within, marked_here, first_next}
use Rattle.bajofeki.proofs.edit.first_reaching.Goals as goal

pub overflow_add-at : goal.overflow_add-at
overflow_add-at c =
    let bs = c.args.blocks.now in
    let n = c.loop-spot.spot.block in
    let b = c.index-blocks-spot.result in
    let m = c.requires.marked in
    let lt : n < length bs = omega (arith, c.loop-spot-test.true) in
    let mark = marked_here m.0 m.1.0 bs n b c.index-blocks-spot.is lt m.1.1 in
    omega (arith, c.loop-spot.invariant.at, mark.size, sizes_to bs n b c.index-blocks-spot.is lt, sizes_within bs (n + 1), c.requires.size)

pub overflow_add-spot-in-loop-spot : goal.overflow_add-spot-in-loop-spot
overflow_add-spot-in-loop-spot c =
    let bs = c.args.blocks.now in
    let n = c.loop-spot.spot.block in
    let b = c.index-blocks-spot.result in
    let lt : n < length bs = omega (arith, c.loop-spot-test.true) in
    omega (
      arith,
      c.loop-spot.invariant.spot.count_is,
      c.loop-spot.invariant.begins,
      counts_to bs n b c.index-blocks-spot.is lt,
      counts_within bs (n + 1),
      c.requires.count,
      c.len.ensures,
      b.pieces.ok.0,
    )

pub loop-spot-preserved : goal.loop-spot-preserved
loop-spot-preserved c =
    let bs = c.args.blocks.now in
    let n = c.loop-spot.spot.block in
    let b = c.index-blocks-spot.result in
    let m = c.requires.marked in
    let lt : n < length bs = omega (arith, c.loop-spot-test.true) in
    first_next bs c.args.from c.loop-spot.spot c.loop-spot.at c.len.result _ b c.loop-spot.invariant c.index-blocks-spot.is (omega (arith, c.loop-spot-test.true))
    (marked_here m.0 m.1.0 bs n b c.index-blocks-spot.is lt m.1.1) (omega (arith, c.if-block-saturating_sub.false, c.saturating_sub.ensures)) (omega (arith, c.len.ensures, b.pieces.ok.0))

pub returns-after-loop-spot-clause-stops : goal.returns-after-loop-spot-clause-stops
returns-after-loop-spot-clause-stops c = λ b found lt. absurd (omega (arith, lt, c.loop-spot-test.false))

pub returns-then-block-saturating_sub-clause-stops : goal.returns-then-block-saturating_sub-clause-stops
returns-then-block-saturating_sub-clause-stops c = λ b found lt.
    let is : c.index-blocks-spot.result ≡ b = c.index-blocks-spot.is ∙ got c.args.blocks.now c.loop-spot.spot.block b c.index-blocks-spot.result found in
    omega (arith, ap (λ (x : Block). x.reach) is, c.if-block-saturating_sub.true, c.saturating_sub.ensures)
