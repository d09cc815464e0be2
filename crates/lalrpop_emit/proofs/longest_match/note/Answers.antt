use Rattle.std.proofs.Common.{arith, length}
use Rattle.lalrpop_emit.specs.Internal.Lists.{ahead_numbers}
use Rattle.lalrpop_emit.proofs.Memos.{memo_more, noted_others, count_more, count_one, row_above, row_has_room}
use Rattle.lalrpop_emit.proofs.longest_match.note.Goals as goal

pub word_of-requires-clause-row : goal.word_of-requires-clause-row
word_of-requires-clause-row c = row_above (ahead_numbers c.args.ahead.now) c.args.walk.row c.requires.row.0 c.requires.row.1

pub returns-in-Some-clause-right : goal.returns-in-Some-clause-right
returns-in-Some-clause-right c = λ t nothing right.
    memo_more (ahead_numbers c.args.ahead.now) t c.args.text.now c.args.memo.now c.args.walk.row c.args.walk.at c.in-Some.word c.requires.row.0 c.requires.row.1 c.requires.passed nothing right
    c.in-Some.ensures.0 c.in-Some.ensures.1

pub returns-in-Some-clause-others : goal.returns-in-Some-clause-others
returns-in-Some-clause-others c =
    noted_others (ahead_numbers c.args.ahead.now) c.args.text.now c.args.memo.now c.args.walk.row c.args.walk.at c.in-Some.word c.requires.row.0 c.requires.row.1 c.requires.passed
    c.in-Some.ensures.0 c.in-Some.ensures.1

pub returns-in-Some-clause-never_fewer : goal.returns-in-Some-clause-never_fewer
returns-in-Some-clause-never_fewer c =
    count_more (ahead_numbers c.args.ahead.now) c.args.text.now c.args.memo.now c.args.walk.row c.args.walk.at c.in-Some.word c.requires.row.0 c.requires.row.1 c.requires.passed
    c.in-Some.ensures.0 c.in-Some.ensures.1

pub returns-in-Some-clause-one_more : goal.returns-in-Some-clause-one_more
returns-in-Some-clause-one_more c = λ waits roomy.
    count_one (ahead_numbers c.args.ahead.now) c.args.text.now c.args.memo.now c.args.walk.row c.args.walk.at c.in-Some.word c.requires.row.0 c.requires.row.1 c.requires.passed
    c.in-Some.ensures.0 c.in-Some.ensures.1

pub returns-in_default-clause-one_more : goal.returns-in_default-clause-one_more
returns-in_default-clause-one_more c = λ waits roomy clear.
    absurd (omega (arith, c.in_default.ensures, row_has_room (ahead_numbers c.args.ahead.now) (length c.args.text.now) c.args.memo.now c.args.walk.row (omega (arith, c.requires.place)) waits roomy))
