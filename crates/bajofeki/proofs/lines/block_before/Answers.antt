use Rattle.std.proofs.Common.{◌+◌, ℕ, length, drop, inl, refl, arith, sym, subst, ◌∙◌}
use Rattle.std.proofs.lemmas.Option.{slice_get_read}
use Rattle.bajofeki.specs.Internal.BlockPlaces.{AreCounted}
use Rattle.bajofeki.proofs.Finding.{block_passed}
use Rattle.bajofeki.proofs.LineLaws.{begin_mark, counted_next}
use Rattle.bajofeki.proofs.lines.block_before.Goals as goal

pub loop-block-init : goal.loop-block-init
loop-block-init c = record { mark = begin_mark c.args.text.now c.utf8.text; order = omega arith; begins = refl; rest = c.requires.counted }

pub returns-then-at-mark-clause-near : goal.returns-then-at-mark-clause-near
returns-then-at-mark-clause-near c =
    let bs = c.args.blocks.now in
    let n = c.loop-block.block-index in
    let block = c.block-item.result in
    let inv = c.loop-block.invariant in
    inl (
      block,
      record {
        number = n;
        there = slice_get_read bs (length bs) n block refl c.loop-block-test.true c.block-item.is;
        begins_is = inv.begins;
        before = inv.order;
        behind = omega (arith, c.if-at-mark.true, inv.order);
      },
    )

pub loop-block-preserved : goal.loop-block-preserved
loop-block-preserved c =
    let text = c.args.text.now in
    let bs = c.args.blocks.now in
    let n = c.loop-block.block-index in
    let block = c.block-item.result in
    let inv = c.loop-block.invariant in
    let end = c.behind_block-mark in
    let there = slice_get_read bs (length bs) n block refl c.loop-block-test.true c.block-item.is in
    record {
      mark = end.ensures.mark;
      order = omega (arith, end.ensures.at, c.if-at-mark.false, inv.order);
      begins = end.ensures.at ∙ block_passed bs n block c.loop-block.mark.at there inv.begins;
      rest = subst (λ (m : ℕ). AreCounted (drop m text) (drop (n + 1) bs)) (sym end.ensures.at) (counted_next text c.loop-block.mark.at bs n block there inv.rest).1;
    }
