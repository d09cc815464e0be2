use Rattle.std.proofs.Common.{◌∙◌, drop, arith}
use Rattle.lalrpop_emit.specs.Internal.Lists.{list_numbers, ahead_numbers}
use Rattle.lalrpop_emit.proofs.AheadColumns.{has_columns}
use Rattle.lalrpop_emit.proofs.BlockColumns.{columns_within}
use Rattle.lalrpop_emit.proofs.AheadRows.{is_closed, are_standings}
use Rattle.lalrpop_emit.proofs.ahead_rows.fill.Goals as goal

pub walk-requires-clause-closed : goal.walk-requires-clause-closed
walk-requires-clause-closed c = is_closed (ahead_numbers c.args.ahead.now) (list_numbers c.args.table.now) c.requires.ahead

pub walk-requires-clause-columns : goal.walk-requires-clause-columns
walk-requires-clause-columns c =
    columns_within (list_numbers c.args.table.now) c.args.ahead.now.width (has_columns (ahead_numbers c.args.ahead.now) (list_numbers c.args.table.now) c.requires.ahead) 0
    (drop c.args.from c.args.text.now) c.columns_of.new.columns c.columns_of.ensures

pub join-requires-clause-closed : goal.join-requires-clause-closed
join-requires-clause-closed c = is_closed (ahead_numbers c.args.ahead.now) (list_numbers c.args.table.now) c.requires.ahead

pub join-requires-clause-columns : goal.join-requires-clause-columns
join-requires-clause-columns c =
    columns_within (list_numbers c.args.table.now) c.args.ahead.now.width (has_columns (ahead_numbers c.args.ahead.now) (list_numbers c.args.table.now) c.requires.ahead) 0
    (drop c.args.from c.args.text.now) c.columns_of.new.columns c.columns_of.ensures

pub join-requires-clause-runs : goal.join-requires-clause-runs
join-requires-clause-runs c =
    let size = c.columns_of.auto.columns ∙ c.requires.parts.2 in
    (c.requires.parts.0, c.requires.parts.1, size, c.walk.ensures.runs c.requires.parts.0 size)

pub returns-clause-rows : goal.returns-clause-rows
returns-clause-rows c = λ is_ahead.
    let t = list_numbers c.args.table.now in
    let columns = c.columns_of.new.columns in
    are_standings (ahead_numbers c.args.ahead.now) t is_ahead columns c.join.new.rows (omega (arith, c.join.auto.rows, c.walk.auto.rows, c.columns_of.auto.columns, c.requires.as_many))
    (columns_within t c.args.ahead.now.width (has_columns (ahead_numbers c.args.ahead.now) t is_ahead) 0 (drop c.args.from c.args.text.now) columns c.columns_of.ensures)
    c.join.ensures
