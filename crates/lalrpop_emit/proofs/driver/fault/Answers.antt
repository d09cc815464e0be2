use Rattle.std.proofs.Common.{arith, refl, subst, sym}
use Rattle.lalrpop_dense.specs.DenseTable.{IsTableFor, TableNumbers}
use Rattle.lalrpop_emit.specs.Internal.Lists.{ahead_numbers, list_numbers}
use Rattle.lalrpop_emit.proofs.ModeMemos.{memo_by_part, memo_of_part, same_table, tables_read}
use Rattle.lalrpop_emit.proofs.driver.fault.Goals as goal

pub memo_part-from-requires : goal.memo_part-from-requires
memo_part-from-requires c =
    let n = c.args.numbers.now in
    let read = tables_read _ n c.numbers.inside.tables.items c.numbers.inside.ahead.items c.args.state.now.mode c.index-table.result.now c.index-ahead.result.now c.numbers.view_is c.numbers.invariant refl refl c.requires.mode
    c.index-table.ensures c.index-ahead.ensures in
    read.small

pub fault_end-state-requires-clause-ahead : goal.fault_end-state-requires-clause-ahead
fault_end-state-requires-clause-ahead c =
    let n = c.args.numbers.now in
    let read = tables_read _ n c.numbers.inside.tables.items c.numbers.inside.ahead.items c.args.state.now.mode c.index-table.result.now c.index-ahead.result.now c.numbers.view_is c.numbers.invariant refl refl c.requires.mode
    c.index-table.ensures c.index-ahead.ensures in
    read.can.right

pub fault_end-state-requires-clause-classes : goal.fault_end-state-requires-clause-classes
fault_end-state-requires-clause-classes c =
    let n = c.args.numbers.now in
    let read = tables_read _ n c.numbers.inside.tables.items c.numbers.inside.ahead.items c.args.state.now.mode c.index-table.result.now c.index-ahead.result.now c.numbers.view_is c.numbers.invariant refl refl c.requires.mode
    c.index-table.ensures c.index-ahead.ensures in
    read.walkable.classes

pub fault_end-state-requires-clause-narrow : goal.fault_end-state-requires-clause-narrow
fault_end-state-requires-clause-narrow c =
    let n = c.args.numbers.now in
    let read = tables_read _ n c.numbers.inside.tables.items c.numbers.inside.ahead.items c.args.state.now.mode c.index-table.result.now c.index-ahead.result.now c.numbers.view_is c.numbers.invariant refl refl c.requires.mode
    c.index-table.ensures c.index-ahead.ensures in
    omega (arith, read.can.few)

pub fault_end-state-requires-clause-memo : goal.fault_end-state-requires-clause-memo
fault_end-state-requires-clause-memo c =
    let n = c.args.numbers.now in
    let read = tables_read _ n c.numbers.inside.tables.items c.numbers.inside.ahead.items c.args.state.now.mode c.index-table.result.now c.index-ahead.result.now c.numbers.view_is c.numbers.invariant refl refl c.requires.mode
    c.index-table.ensures c.index-ahead.ensures in
    memo_of_part n c.args.state.now.mode c.args.text.now c.args.memo.now c.memo_part-from.result.0 c.memo_part-from.result.1 (ahead_numbers c.index-ahead.result.now) (list_numbers c.index-table.result.now)
    (record { begins = c.memo_part-from.ensures.from; ends = c.memo_part-from.ensures.to }) read.ahead read.table c.requires.memo

pub returns-clause-fault : goal.returns-clause-fault
returns-clause-fault c = λ u at_u.
    let n = c.args.numbers.now in
    let read = tables_read _ n c.numbers.inside.tables.items c.numbers.inside.ahead.items c.args.state.now.mode c.index-table.result.now c.index-ahead.result.now c.numbers.view_is c.numbers.invariant refl refl c.requires.mode
    c.index-table.ensures c.index-ahead.ensures in
    let same = same_table n c.args.state.now.mode (list_numbers c.index-table.result.now) u read.table at_u in
    λ d h. c.fault_end-state.ensures.fault d (subst (λ (v : TableNumbers). IsTableFor v d) (sym same) h)

pub returns-clause-memo : goal.returns-clause-memo
returns-clause-memo c =
    let n = c.args.numbers.now in
    let read = tables_read _ n c.numbers.inside.tables.items c.numbers.inside.ahead.items c.args.state.now.mode c.index-table.result.now c.index-ahead.result.now c.numbers.view_is c.numbers.invariant refl refl c.requires.mode
    c.index-table.ensures c.index-ahead.ensures in
    memo_by_part n c.args.state.now.mode c.args.text.now c.args.memo.now c.fault_end-state.new.memo c.memo_part-from.result.0 c.memo_part-from.result.1 (ahead_numbers c.index-ahead.result.now)
    (list_numbers c.index-table.result.now) read.counted (record { begins = c.memo_part-from.ensures.from; ends = c.memo_part-from.ensures.to }) read.ahead read.table c.requires.memo c.fault_end-state.auto.memo c.fault_end-state.ensures.memo
