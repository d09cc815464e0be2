use Rattle.std.proofs.Common.{arith, refl, subst, sym}
use Rattle.lalrpop_emit.specs.Internal.Lists.{ahead_numbers, list_numbers}
use Rattle.lalrpop_emit.specs.Internal.Running.{IsRunOf}
use Rattle.lalrpop_emit.specs.declared.run.Run.{Run}
use Rattle.lalrpop_emit.proofs.Driving.{mode_read, ahead_read, walkable_there}
use Rattle.lalrpop_emit.proofs.Found.{IsFoundAt, found_in, found_known}
use Rattle.lalrpop_emit.proofs.ModeMemos.{memo_by_part, memo_of_part, tables_read}
use Rattle.lalrpop_emit.proofs.ModeRuns.{begun, filled}
use Rattle.lalrpop_emit.proofs.driver.found.Goals as goal
use Rattle.lalrpop_emit.proofs.driver.found.Goals.{then-length-gt0+else-is_some, else-length-gt0}

pub fill_block-requires-clause-right : goal.fill_block-requires-clause-right
fill_block-requires-clause-right c =
    let n = c.args.numbers.now in
    let t = c.index-table.result.now in
    let mode = mode_read _ n c.numbers.inside.tables.items c.args.mode t c.numbers.view_is c.numbers.invariant.1 refl c.requires.mode c.index-table.ensures in
    let x = c.index-ahead.result.now in
    let ahead = ahead_read _ n c.numbers.inside.ahead.items c.args.mode x c.numbers.view_is refl (omega (arith, c.requires.mode, mode.drivable.as_many)) c.index-ahead.ensures in
    mode.drivable.ahead c.args.mode (ahead_numbers x) (list_numbers t) ahead mode.there

pub fill_block-requires-clause-classes : goal.fill_block-requires-clause-classes
fill_block-requires-clause-classes c =
    let n = c.args.numbers.now in
    let t = c.index-table.result.now in
    let mode = mode_read _ n c.numbers.inside.tables.items c.args.mode t c.numbers.view_is c.numbers.invariant.1 refl c.requires.mode c.index-table.ensures in
    let walkable = walkable_there n c.args.mode (list_numbers t) mode in walkable.classes

pub known-token-requires-clause-serves : goal.known-token-requires-clause-serves
known-token-requires-clause-serves c =
    let n = c.args.numbers.now in
    let t = c.index-table.result.now in
    let mode = mode_read _ n c.numbers.inside.tables.items c.args.mode t c.numbers.view_is c.numbers.invariant.1 refl c.requires.mode c.index-table.ensures in
    let x = c.index-ahead.result.now in
    let serves = begun n c.args.at c.args.text.now (ahead_numbers x) (list_numbers t) c.fill_block.new.run c.fill_block.ensures.run c.fill_block.ensures.place c.fill_block.ensures.begins.0 in
    (list_numbers t, (c.args.text.now, (c.args.at, serves)))

pub returns-then-is_some-clause-answer : goal.returns-then-is_some-clause-answer
returns-then-is_some-clause-answer c = λ u at_u d h ts ps s.
    let n = c.args.numbers.now in
    let t = c.index-table.result.now in
    let mode = mode_read _ n c.numbers.inside.tables.items c.args.mode t c.numbers.view_is c.numbers.invariant.1 refl c.requires.mode c.index-table.ensures in
    let x = c.index-ahead.result.now in
    let serves = begun n c.args.at c.args.text.now (ahead_numbers x) (list_numbers t) c.fill_block.new.run c.fill_block.ensures.run c.fill_block.ensures.place c.fill_block.ensures.begins.0 in
    let known = found_known (list_numbers t) c.args.text.now c.args.at c.known-token.result c.is_some.result c.is_some.ensures c.if-is_some.true (c.known-token.ensures.token (list_numbers t) c.args.text.now c.args.at serves) in
    let found = found_in n c.args.mode (list_numbers t) c.args.text.now c.args.at c.known-token.result mode.there known u at_u in found.longest d h ts ps s

pub returns-then-is_some-clause-place : goal.returns-then-is_some-clause-place
returns-then-is_some-clause-place c =
    let t = c.index-table.result.now in
    let x = c.index-ahead.result.now in
    let serves = begun c.args.numbers.now c.args.at c.args.text.now (ahead_numbers x) (list_numbers t) c.fill_block.new.run c.fill_block.ensures.run c.fill_block.ensures.place c.fill_block.ensures.begins.0 in
    let known = found_known (list_numbers t) c.args.text.now c.args.at c.known-token.result c.is_some.result c.is_some.ensures c.if-is_some.true (c.known-token.ensures.token (list_numbers t) c.args.text.now c.args.at serves) in
    known.place

pub returns-then-is_some-clause-rule : goal.returns-then-is_some-clause-rule
returns-then-is_some-clause-rule c = λ u at_u count below.
    let n = c.args.numbers.now in
    let t = c.index-table.result.now in
    let mode = mode_read _ n c.numbers.inside.tables.items c.args.mode t c.numbers.view_is c.numbers.invariant.1 refl c.requires.mode c.index-table.ensures in
    let x = c.index-ahead.result.now in
    let serves = begun n c.args.at c.args.text.now (ahead_numbers x) (list_numbers t) c.fill_block.new.run c.fill_block.ensures.run c.fill_block.ensures.place c.fill_block.ensures.begins.0 in
    let known = found_known (list_numbers t) c.args.text.now c.args.at c.known-token.result c.is_some.result c.is_some.ensures c.if-is_some.true (c.known-token.ensures.token (list_numbers t) c.args.text.now c.args.at serves) in
    let found = found_in n c.args.mode (list_numbers t) c.args.text.now c.args.at c.known-token.result mode.there known u at_u in found.rules count below

pub returns-then-is_some-clause-run : goal.returns-then-is_some-clause-run
returns-then-is_some-clause-run c =
    let n = c.args.numbers.now in
    let t = c.index-table.result.now in
    let mode = mode_read _ n c.numbers.inside.tables.items c.args.mode t c.numbers.view_is c.numbers.invariant.1 refl c.requires.mode c.index-table.ensures in
    let x = c.index-ahead.result.now in
    let ahead = ahead_read _ n c.numbers.inside.ahead.items c.args.mode x c.numbers.view_is refl (omega (arith, c.requires.mode, mode.drivable.as_many)) c.index-ahead.ensures in
    let serves = begun n c.args.at c.args.text.now (ahead_numbers x) (list_numbers t) c.fill_block.new.run c.fill_block.ensures.run c.fill_block.ensures.place c.fill_block.ensures.begins.0 in
    filled n c.args.at c.args.text.now (ahead_numbers x) (list_numbers t) c.args.mode c.args.run.now c.fill_block.new.run c.known-token.new.run ahead mode.there c.requires.run c.fill_block.ensures.run
    c.fill_block.ensures.begins c.known-token.ensures.same c.known-token.ensures.room (c.known-token.ensures.serves (list_numbers t) c.args.text.now c.args.at serves)

pub memo_part-from-requires : goal.memo_part-from-requires
memo_part-from-requires c =
    let n = c.args.numbers.now in
    let read = tables_read _ n c.numbers.inside.tables.items c.numbers.inside.ahead.items c.args.mode c.index-table.result.now c.index-ahead.result.now c.numbers.view_is c.numbers.invariant refl refl c.requires.mode
    c.index-table.ensures c.index-ahead.ensures in
    read.small

pub longest-requires-clause-ahead : goal.longest-requires-clause-ahead
longest-requires-clause-ahead c =
    let n = c.args.numbers.now in
    let read = tables_read _ n c.numbers.inside.tables.items c.numbers.inside.ahead.items c.args.mode c.index-table.result.now c.index-ahead.result.now c.numbers.view_is c.numbers.invariant refl refl c.requires.mode
    c.index-table.ensures c.index-ahead.ensures in
    read.can.right

pub longest-requires-clause-classes : goal.longest-requires-clause-classes
longest-requires-clause-classes c =
    let n = c.args.numbers.now in
    let read = tables_read _ n c.numbers.inside.tables.items c.numbers.inside.ahead.items c.args.mode c.index-table.result.now c.index-ahead.result.now c.numbers.view_is c.numbers.invariant refl refl c.requires.mode
    c.index-table.ensures c.index-ahead.ensures in
    read.walkable.classes

pub longest-requires-clause-narrow : goal.longest-requires-clause-narrow
longest-requires-clause-narrow c =
    let n = c.args.numbers.now in
    let read = tables_read _ n c.numbers.inside.tables.items c.numbers.inside.ahead.items c.args.mode c.index-table.result.now c.index-ahead.result.now c.numbers.view_is c.numbers.invariant refl refl c.requires.mode
    c.index-table.ensures c.index-ahead.ensures in
    omega (arith, read.can.few)

pub longest-requires-clause-memo : goal.longest-requires-clause-memo
longest-requires-clause-memo c =
    let n = c.args.numbers.now in
    let read = tables_read _ n c.numbers.inside.tables.items c.numbers.inside.ahead.items c.args.mode c.index-table.result.now c.index-ahead.result.now c.numbers.view_is c.numbers.invariant refl refl c.requires.mode
    c.index-table.ensures c.index-ahead.ensures in
    memo_of_part n c.args.mode c.args.text.now c.args.memo.now c.memo_part-from.result.0 c.memo_part-from.result.1 (ahead_numbers c.index-ahead.result.now) (list_numbers c.index-table.result.now)
    (record { begins = c.memo_part-from.ensures.from; ends = c.memo_part-from.ensures.to }) read.ahead read.table c.requires.memo

pub returns-clause-answer : goal.returns-clause-answer
returns-clause-answer c = λ u at_u d h ts ps s.
    let n = c.args.numbers.now in
    let t = c.index-table.result.now in
    let mode = mode_read _ n c.numbers.inside.tables.items c.args.mode t c.numbers.view_is c.numbers.invariant.1 refl c.requires.mode c.index-table.ensures in
    let walked : IsFoundAt (list_numbers t) c.args.text.now c.args.at c.longest.result = record { longest = c.longest.ensures.answer; place = c.longest.ensures.place; rules = c.longest.ensures.rule } in
    let found = found_in n c.args.mode (list_numbers t) c.args.text.now c.args.at c.longest.result mode.there walked u at_u in found.longest d h ts ps s

pub returns-clause-rule : goal.returns-clause-rule
returns-clause-rule c = λ u at_u count below.
    let n = c.args.numbers.now in
    let t = c.index-table.result.now in
    let mode = mode_read _ n c.numbers.inside.tables.items c.args.mode t c.numbers.view_is c.numbers.invariant.1 refl c.requires.mode c.index-table.ensures in
    let walked : IsFoundAt (list_numbers t) c.args.text.now c.args.at c.longest.result = record { longest = c.longest.ensures.answer; place = c.longest.ensures.place; rules = c.longest.ensures.rule } in
    let found = found_in n c.args.mode (list_numbers t) c.args.text.now c.args.at c.longest.result mode.there walked u at_u in found.rules count below

pub returns-clause-run : goal.returns-clause-run
returns-clause-run c =
    let n = c.args.numbers.now in
    let t = c.index-table.result.now in
    let mode = mode_read _ n c.numbers.inside.tables.items c.args.mode t c.numbers.view_is c.numbers.invariant.1 refl c.requires.mode c.index-table.ensures in
    elim c.if-length-gt0.branch [
      | then-length-gt0+else-is_some w ↦
          let x = c.index-ahead.result.now in
          let ahead = ahead_read _ n c.numbers.inside.ahead.items c.args.mode x c.numbers.view_is refl (omega (arith, c.requires.mode, mode.drivable.as_many)) c.index-ahead.ensures in
          let serves = begun n c.args.at c.args.text.now (ahead_numbers x) (list_numbers t) w.fill_block.new.run w.fill_block.ensures.run w.fill_block.ensures.place w.fill_block.ensures.begins.0 in
          subst (λ (r : Run). IsRunOf n c.args.mode c.args.at c.args.text.now r) (sym w.run-is)
          (filled n c.args.at c.args.text.now (ahead_numbers x) (list_numbers t) c.args.mode c.args.run.now w.fill_block.new.run w.known-token.new.run ahead mode.there c.requires.run w.fill_block.ensures.run
          w.fill_block.ensures.begins w.known-token.ensures.same w.known-token.ensures.room (w.known-token.ensures.serves (list_numbers t) c.args.text.now c.args.at serves))
      | else-length-gt0 w ↦ subst (λ (r : Run). IsRunOf n c.args.mode c.args.at c.args.text.now r) (sym w.run-is) c.requires.run
    ]

pub returns-clause-memo : goal.returns-clause-memo
returns-clause-memo c =
    let n = c.args.numbers.now in
    let read = tables_read _ n c.numbers.inside.tables.items c.numbers.inside.ahead.items c.args.mode c.index-table.result.now c.index-ahead.result.now c.numbers.view_is c.numbers.invariant refl refl c.requires.mode
    c.index-table.ensures c.index-ahead.ensures in
    memo_by_part n c.args.mode c.args.text.now c.args.memo.now c.longest.new.memo c.memo_part-from.result.0 c.memo_part-from.result.1 (ahead_numbers c.index-ahead.result.now)
    (list_numbers c.index-table.result.now) read.counted (record { begins = c.memo_part-from.ensures.from; ends = c.memo_part-from.ensures.to }) read.ahead read.table c.requires.memo c.longest.auto.memo c.longest.ensures.memo
