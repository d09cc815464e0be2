use Rattle.std.proofs.Common.{◌≡◌, ◌+◌, ◌*◌, arith, ap, sym, subst, length, get_or}
use Rattle.lalrpop_emit.specs.Ahead.{Begin}
use Rattle.lalrpop_emit.specs.Internal.Lists.{list_numbers}
use Rattle.lalrpop_emit.specs.Internal.MadeRows.{AreRowsOf}
use Rattle.lalrpop_emit.specs.Internal.Standings.{IsAmong, standing_at, standing_cells}
use Rattle.lalrpop_emit.proofs.RowLists.{one_row_more}
use Rattle.lalrpop_emit.proofs.Standings.{all_standings, among_at, cells_length, read_at}
use Rattle.lalrpop_emit.proofs.regular_ahead.all_cells.Goals as goal

pub push_cells-requires-clause-among : goal.push_cells-requires-clause-among
push_cells-requires-clause-among c =
    let is = read_at c.args.shape c.args.standings.now c.loop-standing.standing-index c.requires.standings c.loop-standing-test.true in
    subst (IsAmong c.args.shape) (sym is.1) (among_at c.args.shape c.loop-standing.standing-index is.0)

pub loop-standing-preserved : goal.loop-standing-preserved
loop-standing-preserved c =
    let t = list_numbers c.args.table.now in
    let n = c.loop-standing.standing-index in
    let x = get_or c.args.standings.now n Begin in
    let is = read_at c.args.shape c.args.standings.now n c.requires.standings c.loop-standing-test.true in
    record {
      rows =
          one_row_more (λ k. standing_cells t c.args.shape c.args.width (standing_at c.args.shape k)) c.args.width c.loop-standing.cells.items c.push_cells.new.cells.items (standing_cells t c.args.shape c.args.width x) n
          c.loop-standing.invariant.rows (ap (standing_cells t c.args.shape c.args.width) is.1) (cells_length t c.args.shape c.args.width x) c.in_ok-push_cells.ensures.cells;
      small = c.in_ok-push_cells.ensures.small;
    }

pub returns-clause-cells : goal.returns-clause-cells
returns-clause-cells c =
    let all : c.loop-standing.standing-index ≡ 2 * c.args.shape.live + 3 =
    omega (arith, c.loop-standing-test.false, c.loop-standing.auto.standing-index-end, ap length c.requires.standings, all_standings c.args.shape) in
    subst (AreRowsOf (λ k. standing_cells (list_numbers c.args.table.now) c.args.shape c.args.width (standing_at c.args.shape k)) c.args.width c.loop-standing.cells.items) all c.loop-standing.invariant.rows
