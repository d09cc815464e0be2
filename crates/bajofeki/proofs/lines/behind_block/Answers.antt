use Rattle.std.proofs.Common.{◌+◌, arith, sym, ap, ◌∙◌}
use Rattle.std.proofs.lemmas.Bool.{false≢true}
use Rattle.std.proofs.lemmas.Str.{IsUtf8-take}
use Rattle.bajofeki_rules.specs.declared.position.Position.{Position}
use Rattle.bajofeki.proofs.LineLaws.{block_boundary, block_place, place_within}
use Rattle.bajofeki.proofs.lines.behind_block.Goals as goal

pub unreachable-requires : goal.unreachable-requires
unreachable-requires c =
    let text = c.args._text.now in
    let to = c.args.mark.at + c.args.block.now.size in
    let boundary = block_boundary text c.utf8._text c.args.mark c.requires.mark c.args.block.now c.requires.block in
    let within = place_within text to (IsUtf8-take text to c.utf8._text boundary) in
    let same = block_place text c.utf8._text c.args.mark c.requires.mark c.args.block.now c.requires.block in
    absurd (false≢true (c.in-None.ensures.fits.1 (
      omega (arith, within.0, ap (λ (p : Position). p.line) same, boundary.0),
      omega (arith, within.1, ap (λ (p : Position). p.column) same, boundary.0),
    )))

pub returns-clause-mark : goal.returns-clause-mark
returns-clause-mark c = record {
  boundary = block_boundary c.args._text.now c.utf8._text c.args.mark c.requires.mark c.args.block.now c.requires.block;
  place = c.in-Some.ensures.place ∙ sym (block_place c.args._text.now c.utf8._text c.args.mark c.requires.mark c.args.block.now c.requires.block);
}
