use Rattle.std.proofs.Common.{◌≡◌, ◌≤◌, ◌+◌, ◌∙◌, ℕ, List, length, take, arith, ap, length-take}
use Rattle.std.proofs.lemmas.List.{take_all}
use Rattle.bajofeki_rules.specs.Position.{byte_place}
use Rattle.bajofeki_rules.specs.declared.position.Position.{Position}
use Rattle.bajofeki_rules.proofs.BytePlaces.{byte_line_within, byte_column_within}
use Rattle.bajofeki_rules.proofs.position.byte_place.Goals as goal

pub next_byte-place-requires-clause-line : goal.next_byte-place-requires-clause-line
next_byte-place-requires-clause-line c =
    let front = take c.loop-byte.byte-index c.args.bytes.now in
    omega (arith, byte_line_within front, ap (λ (p : Position). p.line) c.loop-byte.invariant.place, length-take c.loop-byte.byte-index c.args.bytes.now)

pub next_byte-place-requires-clause-column : goal.next_byte-place-requires-clause-column
next_byte-place-requires-clause-column c =
    let front = take c.loop-byte.byte-index c.args.bytes.now in
    omega (arith, byte_column_within front, ap (λ (p : Position). p.column) c.loop-byte.invariant.place, length-take c.loop-byte.byte-index c.args.bytes.now)
