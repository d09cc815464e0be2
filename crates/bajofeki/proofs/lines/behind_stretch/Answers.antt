use Rattle.std.proofs.Common.{arith, sym, ap, ◌∙◌}
use Rattle.std.proofs.lemmas.Bool.{false≢true}
use Rattle.std.proofs.lemmas.Str.{IsUtf8-take}
use Rattle.bajofeki_rules.specs.Position.{place_after}
use Rattle.bajofeki_rules.specs.declared.position.Position.{Position}
use Rattle.bajofeki.proofs.LineLaws.{place_within, stretch_place}
use Rattle.bajofeki.proofs.lines.behind_stretch.Goals as goal

pub unreachable-requires : goal.unreachable-requires
unreachable-requires c =
    let text = c.args.text.now in
    let to = c.args.to in
    let within = place_within text to (IsUtf8-take text to c.utf8.text c.requires.boundary) in
    let same = ap (place_after c.args.mark.place) c.range.ensures.value ∙ sym (stretch_place text c.args.mark to c.utf8.text c.requires.mark c.requires.order) in
    absurd (false≢true (c.in-None.ensures.fits.1 (
      omega (arith, within.0, ap (λ (p : Position). p.line) same, c.requires.boundary.0),
      omega (arith, within.1, ap (λ (p : Position). p.column) same, c.requires.boundary.0),
    )))

pub returns-clause-mark : goal.returns-clause-mark
returns-clause-mark c = record {
  boundary = c.requires.boundary;
  place =
      c.in-Some.ensures.place ∙ ap (place_after c.args.mark.place) c.range.ensures.value
      ∙ sym (stretch_place c.args.text.now c.args.mark c.args.to c.utf8.text c.requires.mark c.requires.order);
}
