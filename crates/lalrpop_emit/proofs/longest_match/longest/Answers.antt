use Rattle.lalrpop_emit.specs.Internal.Lists.{ahead_numbers, list_numbers}
use Rattle.lalrpop_emit.proofs.StepWalks.{answer_longest, answer_place, answer_rule}
use Rattle.lalrpop_emit.proofs.longest_match.longest.Goals as goal

pub returns-clause-answer : goal.returns-clause-answer
returns-clause-answer c = λ d right ts ps r.
    let last = c.read_and_note-reading.result.last in
    answer_longest (ahead_numbers c.args.ahead.now) (list_numbers c.args.table.now) c.requires.ahead c.args.text.now c.args.start last.row last.at c.read_and_note-reading.ensures.last d ts ps right r
    c.read_and_note-reading.ensures.nothing c.match_to.result c.match_to.ensures

pub returns-clause-place : goal.returns-clause-place
returns-clause-place c =
    let last = c.read_and_note-reading.result.last in
    answer_place (ahead_numbers c.args.ahead.now) (list_numbers c.args.table.now) c.requires.ahead c.args.text.now c.args.start last.row last.at c.read_and_note-reading.ensures.last
    c.match_to.result c.match_to.ensures

pub returns-clause-rule : goal.returns-clause-rule
returns-clause-rule c = λ count below.
    let last = c.read_and_note-reading.result.last in
    answer_rule (ahead_numbers c.args.ahead.now) (list_numbers c.args.table.now) c.requires.ahead c.args.text.now c.args.start last.row last.at c.read_and_note-reading.ensures.last
    count below c.match_to.result c.match_to.ensures
