use Rattle.reviews_lib.proofs.ReviewMembers.{five_steps}
use Rattle.reviews_lib.proofs.review_json.write_automaton.Goals as goal

pub returns-clause-tokens : goal.returns-clause-tokens
returns-clause-tokens c =
    five_steps c.write_look.result _ _ _ _ _ _ _ _ _ _ _ (rw c.file.ensures at c.in_ok-write_string.ensures.tokens) c.in_ok-write_string-2.ensures.tokens
    c.in_ok-write_mode.ensures.tokens c.in_ok-write_number.ensures.tokens c.write_look.ensures.tokens
