use Rattle.std.proofs.Common.{arith}
use Rattle.lalrpop_emit.specs.Internal.Lists.{ahead_numbers}
use Rattle.lalrpop_emit.proofs.Memos.{row_above, row_has_room}
use Rattle.lalrpop_emit.proofs.longest_match.is_noted.Goals as goal

pub word_of-requires-clause-row : goal.word_of-requires-clause-row
word_of-requires-clause-row c = row_above (ahead_numbers c.args.ahead.now) c.args.walk.row c.requires.row.0 c.requires.row.1

pub returns-in-None-clause-not_noted : goal.returns-in-None-clause-not_noted
returns-in-None-clause-not_noted c = λ waits roomy noted.
    absurd (omega (arith, c.in-None.ensures, row_has_room (ahead_numbers c.args.ahead.now) c.args.size c.args.memo.now c.args.walk.row (omega (arith, c.requires.place)) waits roomy))
