use Rattle.std.proofs.Common.{◌≡◌, arith, ap}
use Rattle.std.specs.Str.{chars}
use Rattle.std.proofs.lemmas.Bool.{false≢true}
use Rattle.bajofeki_rules.specs.Position.{place_after, place_behind}
use Rattle.bajofeki_rules.specs.declared.position.Position.{Position}
use Rattle.bajofeki_rules.proofs.Places.{column_within, few_chars, line_within}
use Rattle.bajofeki.proofs.LineLaws.{moved_begin}
use Rattle.bajofeki.proofs.block.end_of.Goals as goal

pub unreachable-requires : goal.unreachable-requires
unreachable-requires c =
    let text = c.args.text.now in
    let cs = chars text in
    let few = few_chars text c.utf8.text in
    let is : place_after (record { line = 1; column = 1 }) text ≡ place_behind cs = moved_begin (place_behind cs) (omega arith) (omega arith) in
    absurd (false≢true (c.in-None.ensures.fits.1 (
      omega (arith, few, line_within cs, ap (λ (p : Position). p.line) is),
      omega (arith, few, column_within cs, ap (λ (p : Position). p.column) is),
    )))
