use Rattle.std.proofs.Common.{arith}
use Rattle.reviews_lib.proofs.ReviewMembers.{past_all, past_all_is_number}
use Rattle.reviews_lib.proofs.review_json.write_past.Goals as goal

pub number-requires : goal.number-requires
number-requires c = past_all_is_number

pub returns-in_ok-key-in-None-clause-tokens : goal.returns-in_ok-key-in-None-clause-tokens
returns-in_ok-key-in-None-clause-tokens c =
    past_all c.number.result c.args.count _ _ _ (omega (arith, c.in-None.ensures)) c.in_ok-key-in-None.ensures.ok c.number.ensures.ok
