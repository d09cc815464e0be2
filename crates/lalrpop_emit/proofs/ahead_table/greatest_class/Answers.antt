use Rattle.std.proofs.Common.{◌+◌, ◌*◌, arith}
use Rattle.lalrpop_emit.specs.Internal.Lists.{list_numbers}
use Rattle.lalrpop_emit.proofs.AheadTables.{classes_among_more, page_as_before, page_more, pages_below}
use Rattle.lalrpop_emit.proofs.ahead_table.greatest_class.Goals as goal
use Rattle.lalrpop_emit.proofs.ahead_table.greatest_class.Goals.{then-not-is_as_before, else-not-is_as_before}

pub loop-page-preserved : goal.loop-page-preserved
loop-page-preserved c =
    let t = list_numbers c.args.table.now in
    let page = c.loop-page.page in
    elim c.if-not-is_as_before.branch [
      | then-not-is_as_before w ↦ rw w.greatest-is (page_more t (w.max-greatest.result + 1) page (classes_among_more t (c.loop-page.greatest + 1) (w.max-greatest.result + 1) (page * 128) (omega (arith, w.max-greatest.ensures)) c.loop-page.invariant)
          (λ k low high. omega (arith, w.greatest_of_page.ensures k low high, w.max-greatest.ensures)))
      | else-not-is_as_before w ↦ rw w.greatest-is (page_as_before t (c.loop-page.greatest + 1) page (omega (arith, c.loop-page.auto.page)) (c.is_as_before.ensures w.if-not-is_as_before.false) c.loop-page.invariant)
    ]

pub returns : goal.returns
returns c = λ k low high.
    omega (arith, pages_below (list_numbers c.args.table.now) (c.loop-page.greatest + 1) c.page_end-page-end.result c.page_end-page-end.ensures (λ j from to. c.loop-page.invariant j from (omega (arith, to, c.loop-page-test.false))) k low high)
