use Rattle.std.proofs.Common.{ℕ, ◌+◌}
use Rattle.std.specs.Prelude.{slice_index}
use borrow.Author.Count.{below_more}
use Rattle.lalrpop_emit.specs.Ahead.{StandsFor, by_column}
use Rattle.lalrpop_emit.specs.Internal.Lists.{ahead_numbers, list_numbers}
use Rattle.lalrpop_emit.proofs.ahead_table.leads_right.Goals as goal

pub loop-column-preserved : goal.loop-column-preserved
loop-column-preserved c =
    let a = ahead_numbers c.args.ahead.now in
    let t = list_numbers c.args.table.now in
    let standings = c.args.standings.now in
    let stands = c.stands_for.ensures c.if-not-stands_for.false in
    below_more (λ (column : ℕ). StandsFor a standings (slice_index a.cells (c.args.row + column)) (by_column t a.width c.args.standing column)) c.loop-column.column c.loop-column.invariant
    (stands.0, (cc (stands.1, c.by_column-led.ensures)), (cc (stands.2, c.cell-target.ensures)))
