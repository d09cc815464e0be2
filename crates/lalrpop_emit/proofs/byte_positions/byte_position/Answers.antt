use Rattle.std.proofs.Common.{◌≡◌, length, ap, ◌∙◌, arith}
use Rattle.std.specs.Prelude.{min, max}
use Rattle.bajofeki_rules.specs.declared.position.Position.{Position}
use Rattle.lalrpop_emit.specs.BytePositions.{byte_position_of}
use Rattle.lalrpop_emit.specs.declared.byte_positions.BytePosition.{BytePosition}
use Rattle.bajofeki_rules.proofs.BytePlaces.{byte_place_in_text}
use Rattle.lalrpop_emit.proofs.byte_positions.byte_position.Goals as goal

pub returns-clause-text : goal.returns-clause-text
returns-clause-text c = λ u b.
    let text = c.args.text.now in
    let at = c.args.at in
    let there : max 0 (min at (length text)) ≡ at = omega (arith, b.0) in
    let is : c.move_on.new.position ≡ byte_position_of text (max 0 (min at (length text))) = c.move_on.ensures in
    let here : c.move_on.new.position ≡ byte_position_of text at = is ∙ ap (byte_position_of text) there in
    let law = byte_place_in_text text at u b in
    (ap (λ (p : BytePosition). p.line) here ∙ ap (λ (p : Position). p.line) law, ap (λ (p : BytePosition). p.column) here ∙ ap (λ (p : Position). p.column) law)
