use Rattle.reviews_lib.proofs.ReviewMembers.{five_steps}
use Rattle.reviews_lib.proofs.review_json.write_idle.Goals as goal

pub returns-clause-tokens : goal.returns-clause-tokens
returns-clause-tokens c =
    five_steps c.write_winners.result _ _ _ _ _ _ _ _ _ _ _ c.in_ok-write_place.ensures.tokens c.in_ok-write_string.ensures.tokens c.in_ok-write_rule.ensures.tokens
    c.in_ok-write_mode.ensures.tokens (rw c.deref.ensures.value at c.write_winners.ensures.tokens)
