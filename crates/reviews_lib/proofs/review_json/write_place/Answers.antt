use Rattle.std.proofs.Common.{ap}
use Rattle.bajofeki_rules.specs.declared.position.Position.{Position}
use Rattle.reviews_lib.proofs.ReviewMembers.{three_steps}
use Rattle.reviews_lib.proofs.review_json.write_place.Goals as goal

pub returns-clause-tokens : goal.returns-clause-tokens
returns-clause-tokens c =
    three_steps c.write_number-2.result _ _ _ _ _ _ _
    (rw c.file.ensures at c.in_ok-write_string.ensures.tokens)
    (rw (ap (λ (p : Position). p.line) c.place-line.ensures) at c.in_ok-write_number.ensures.tokens)
    (rw (ap (λ (p : Position). p.column) c.place-line.ensures) at c.write_number-2.ensures.tokens)
