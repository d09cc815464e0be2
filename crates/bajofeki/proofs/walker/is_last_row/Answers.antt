use Rattle.std.proofs.Common.{◌<◌, ◌≤◌, ◌∙◌, sym, arith, get_or}
use Rattle.lalrpop_dense.specs.DenseTable.{table_numbers}
use Rattle.bajofeki.specs.Internal.Walking.{cell_of_block}
use Rattle.bajofeki.proofs.Walking.{on_in_page, some_found}
use Rattle.bajofeki.proofs.walker.is_last_row.Goals as goal

pub returns-then-is_some-clause-goes_on : goal.returns-then-is_some-clause-goes_on
returns-then-is_some-clause-goes_on c = λ _.
    let t = table_numbers c.args.table.now in
    let found = some_found c.first_on_in_block.result (λ offset. (offset < 128) × (t.live ≤ cell_of_block t c.args.row (get_or t.pages c.loop-page.page 0) offset)) c.first_on_in_block.ensures.some (sym c.is_some.ensures ∙ c.if-is_some.true) in
    on_in_page t c.args.row c.loop-page.page found.0 (omega (arith, c.loop-page-test.true)) (omega (arith, c.loop-page-test.true)) found.1.0 found.1.1
