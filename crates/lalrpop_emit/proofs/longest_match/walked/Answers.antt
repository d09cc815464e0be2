use Rattle.std.proofs.Common.{◌+◌, arith}
use Rattle.lalrpop_emit.specs.Internal.Lists.{ahead_numbers, list_numbers}
use Rattle.lalrpop_emit.proofs.Steps.{stops_at_end, stops_at_none, stops_at_row, column_in_row, column_step, step_within, step_row}
use Rattle.lalrpop_emit.proofs.longest_match.walked.Goals as goal

pub returns-then-walk-text-clause-step : goal.returns-then-walk-text-clause-step
returns-then-walk-text-clause-step c =
    stops_at_end (ahead_numbers c.args.ahead.now) (list_numbers c.args.table.now) c.args.text.now c.args.walk.row c.args.walk.at (omega (arith, c.if-walk-text.true))

pub returns-in_default-clause-step : goal.returns-in_default-clause-step
returns-in_default-clause-step c =
    stops_at_none (ahead_numbers c.args.ahead.now) (list_numbers c.args.table.now) c.args.text.now c.args.walk.row c.args.walk.at c.in_default.ensures

pub returns-then-not-is_open-clause-step : goal.returns-then-not-is_open-clause-step
returns-then-not-is_open-clause-step c =
    let a = ahead_numbers c.args.ahead.now in
    let t = list_numbers c.args.table.now in
    let column = c.in-Some.column in
    stops_at_row a t c.args.text.now c.args.walk.row c.args.walk.at c.in-Some.ensures.0 column.number c.index.result.now c.in-Some.ensures.1.0 c.in-Some.ensures.1.1
    (column_in_row a t c.args.text.now c.args.walk.row c.args.walk.at column.number column.size c.requires.ahead c.requires.row c.in-Some.ensures) c.index.ensures
    (λ open_row. let holds = c.is_open.ensures.1 open_row in let fails = c.if-not-is_open.true in cc)

pub overflow_add-result : goal.overflow_add-result
overflow_add-result c =
    let a = ahead_numbers c.args.ahead.now in
    let t = list_numbers c.args.table.now in
    let s = column_step a t c.args.text.now c.args.walk.row c.args.walk.at c.in-Some.column.number c.in-Some.column.size c.index.result.now c.requires.ahead c.requires.row c.in-Some.ensures c.index.ensures
    (c.is_open.ensures.0 c.if-not-is_open.false) in
    omega (arith, (step_within a t c.args.text.now c.args.walk.row c.args.walk.at c.index.result.now (c.args.walk.at + c.in-Some.column.size) s).1)

pub returns-clause-step : goal.returns-clause-step
returns-clause-step c =
    column_step (ahead_numbers c.args.ahead.now) (list_numbers c.args.table.now) c.args.text.now c.args.walk.row c.args.walk.at c.in-Some.column.number c.in-Some.column.size c.index.result.now
    c.requires.ahead c.requires.row c.in-Some.ensures c.index.ensures (c.is_open.ensures.0 c.if-not-is_open.false)

pub returns-clause-place : goal.returns-clause-place
returns-clause-place c =
    let a = ahead_numbers c.args.ahead.now in
    let t = list_numbers c.args.table.now in
    let s = column_step a t c.args.text.now c.args.walk.row c.args.walk.at c.in-Some.column.number c.in-Some.column.size c.index.result.now c.requires.ahead c.requires.row c.in-Some.ensures c.index.ensures
    (c.is_open.ensures.0 c.if-not-is_open.false) in
    step_within a t c.args.text.now c.args.walk.row c.args.walk.at c.index.result.now (c.args.walk.at + c.in-Some.column.size) s

pub returns-clause-row : goal.returns-clause-row
returns-clause-row c =
    let a = ahead_numbers c.args.ahead.now in
    let t = list_numbers c.args.table.now in
    let s = column_step a t c.args.text.now c.args.walk.row c.args.walk.at c.in-Some.column.number c.in-Some.column.size c.index.result.now c.requires.ahead c.requires.row c.in-Some.ensures c.index.ensures
    (c.is_open.ensures.0 c.if-not-is_open.false) in
    (step_row a t c.args.text.now c.args.walk.row c.args.walk.at c.index.result.now (c.args.walk.at + c.in-Some.column.size) s c.requires.ahead c.requires.row, s.some)

pub column_at-requires-clause-small : goal.column_at-requires-clause-small
column_at-requires-clause-small c = λ k high low. omega (arith, c.requires.ahead.beyond k high low, c.requires.narrow)
