use Rattle.std.proofs.Common.{true≢false, ◌≡◌, ◌+◌, ℕ, length, drop, inl, refl, arith, sym, ap, subst, ◌∙◌}
use Rattle.std.proofs.lemmas.Option.{slice_get_read}
use Rattle.bajofeki_rules.specs.Position.{IsBefore, position_of}
use Rattle.bajofeki_rules.specs.declared.position.Position.{Position}
use Rattle.bajofeki.specs.Internal.BlockPlaces.{AreCounted}
use Rattle.bajofeki.proofs.Finding.{block_passed}
use Rattle.bajofeki.proofs.LineLaws.{begin_mark, counted_next, none_before}
use Rattle.bajofeki.proofs.lines.block_reaching.Goals as goal

pub loop-block-init : goal.loop-block-init
loop-block-init c = record {
  mark = begin_mark c.args.text.now c.utf8.text;
  begins = refl;
  rest = c.requires.counted;
  front = λ n boundary le less. absurd (omega (arith, less));
}

pub loop-block-preserved : goal.loop-block-preserved
loop-block-preserved c =
    let text = c.args.text.now in
    let bs = c.args.blocks.now in
    let n = c.loop-block.block-index in
    let block = c.block-item.result in
    let end = c.behind_block-end in
    let there = slice_get_read bs (length bs) n block refl c.loop-block-test.true c.block-item.is in
    record {
      mark = end.ensures.mark;
      begins = end.ensures.at ∙ block_passed bs n block c.loop-block.mark.at there c.loop-block.invariant.begins;
      rest =
          subst (λ (m : ℕ). AreCounted (drop m text) (drop (n + 1) bs)) (sym end.ensures.at)
          (counted_next text c.loop-block.mark.at bs n block there c.loop-block.invariant.rest).1;
      front = none_before text end.result c.args.place c.utf8.text end.ensures.mark (c.if-not-is_before.ensures.before.0 refl);
    }

pub returns-then-not-is_before-clause-near : goal.returns-then-not-is_before-clause-near
returns-then-not-is_before-clause-near c =
    let text = c.args.text.now in
    let bs = c.args.blocks.now in
    let n = c.loop-block.block-index in
    let block = c.block-item.result in
    let end = c.behind_block-end in
    let place : end.result.place ≡ position_of text (c.loop-block.mark.at + block.size) = end.ensures.mark.place ∙ ap (position_of text) end.ensures.at in
    inl (
      block,
      record {
        number = n;
        there = slice_get_read bs (length bs) n block refl c.loop-block-test.true c.block-item.is;
        begins_is = c.loop-block.invariant.begins;
        reaches = λ before. true≢false (sym (c.if-not-is_before.ensures.before.1 (subst (λ (p : Position). IsBefore p c.args.place) (sym place) before)));
      },
    )
