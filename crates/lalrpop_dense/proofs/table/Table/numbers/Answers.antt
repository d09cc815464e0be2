use Rattle.std.proofs.Common.{◌≡◌, ap, sym, ◌∙◌}
use Rattle.lalrpop_dense.specs.DenseTable.{cell_numbers}
use Rattle.lalrpop_dense.specs.Internal.Table.{numbers_of}
use Rattle.lalrpop_dense.proofs.DenseTables.{alike_of_parts, table_of_parts}
use Rattle.lalrpop_dense.proofs.table.Table.numbers.Goals as goal
use Rattle.lalrpop_dense.proofs.table.Table.numbers.Goals.{in-Narrow, in-Wide}

pub returns-clause-right : goal.returns-clause-right
returns-clause-right c =
    let t = c.args.self.now in
    let same : cell_numbers c.match-self.cells ≡ numbers_of t.cells =
    elim c.match-self.branch [
      | in-Narrow w ↦ ap cell_numbers w.cells-is ∙ w.deref.ensures.value ∙ sym (ap numbers_of w.in-Narrow.is)
      | in-Wide w ↦ ap cell_numbers w.cells-is ∙ w.deref-in-Wide.ensures.value ∙ sym (ap numbers_of w.in-Wide.is)
    ] in
    table_of_parts t.layout (numbers_of t.cells) c.args.dfa.now c.deref-2.result.now c.deref-3.result.now (cell_numbers c.match-self.cells) c.index.result.now
    c.requires.plain c.states-states.ensures.well_formed c.deref-2.ensures.value c.deref-3.ensures.value c.index.ensures same

pub returns-clause-alike : goal.returns-clause-alike
returns-clause-alike c =
    let t = c.args.self.now in
    alike_of_parts t.layout (numbers_of t.cells) c.args.dfa.now c.deref-2.result.now c.deref-3.result.now (cell_numbers c.match-self.cells) c.index.result.now c.requires.plain c.states-states.ensures.well_formed c.deref-2.ensures.value c.deref-3.ensures.value
