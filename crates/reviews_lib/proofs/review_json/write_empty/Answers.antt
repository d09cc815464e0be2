use Rattle.reviews_lib.proofs.ReviewMembers.{three_steps}
use Rattle.reviews_lib.proofs.review_json.write_empty.Goals as goal

pub returns-clause-tokens : goal.returns-clause-tokens
returns-clause-tokens c =
    three_steps c.write_rule.result _ _ _ _ _ _ _ c.in_ok-write_place.ensures.tokens c.in_ok-write_string.ensures.tokens c.write_rule.ensures.tokens
