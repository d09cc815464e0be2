use Rattle.std.proofs.Common.{◌*◌, ℕ, List, arith, length, subst}
use Rattle.lalrpop_dense.specs.DenseTable.{IsTableFor, TableNumbers}
use Rattle.lalrpop_emit.specs.Internal.Regular.{IsRegular}
use Rattle.lalrpop_emit.specs.NumberedRules.{IsStorableTable}
use Rattle.lalrpop_emit.specs.Internal.MadeRows.{AreRows}
use Rattle.lalrpop_emit.proofs.MadeTables.{made_regular, made_right, made_storable, same_numbers}
use Rattle.lalrpop_emit.proofs.made_table.made_table.Goals as goal

pub returns-clause-right : goal.returns-clause-right
returns-clause-right c =
    let d = c.args.dfa.now in
    let pages = c.in_ok-pages.pages.items in
    let cells = c.in_ok-cells.cells.items in
    let rows = subst (λ (firsts : List ℕ). AreRows d firsts cells (3 * length d)) c.deref.ensures.value c.in_ok-cells.ensures.rows in
    subst (λ (t : TableNumbers). IsTableFor t d)
    (same_numbers d c.args.classes pages cells c.len-width.result (length c.states-count.result.now) c.row_number.result (omega (arith, c.len-width.ensures, c.args.classes.firsts.ok.0))
    (omega (arith, c.states-count.ensures.states.same_length)) c.row_number.ensures.number)
    (made_right d c.args.classes pages cells c.requires.classes c.in_ok-pages.ensures rows c.states-count.ensures.well_formed)

pub returns-clause-regular : goal.returns-clause-regular
returns-clause-regular c =
    let d = c.args.dfa.now in
    let pages = c.in_ok-pages.pages.items in
    let cells = c.in_ok-cells.cells.items in
    let rows = subst (λ (firsts : List ℕ). AreRows d firsts cells (3 * length d)) c.deref.ensures.value c.in_ok-cells.ensures.rows in
    subst (λ (t : TableNumbers). IsRegular t (length d) (3 * length d))
    (same_numbers d c.args.classes pages cells c.len-width.result (length c.states-count.result.now) c.row_number.result (omega (arith, c.len-width.ensures, c.args.classes.firsts.ok.0))
    (omega (arith, c.states-count.ensures.states.same_length)) c.row_number.ensures.number)
    (made_regular d c.args.classes pages cells c.requires.classes c.in_ok-pages.ensures rows c.states-count.ensures.well_formed c.requires.below)

pub returns-clause-storable : goal.returns-clause-storable
returns-clause-storable c =
    let d = c.args.dfa.now in
    let pages = c.in_ok-pages.pages.items in
    let cells = c.in_ok-cells.cells.items in
    let rows = subst (λ (firsts : List ℕ). AreRows d firsts cells (3 * length d)) c.deref.ensures.value c.in_ok-cells.ensures.rows in
    subst IsStorableTable
    (same_numbers d c.args.classes pages cells c.len-width.result (length c.states-count.result.now) c.row_number.result (omega (arith, c.len-width.ensures, c.args.classes.firsts.ok.0))
    (omega (arith, c.states-count.ensures.states.same_length)) c.row_number.ensures.number)
    (made_storable d c.args.classes pages cells c.requires.classes c.in_ok-pages.ensures rows c.states-count.ensures.well_formed)
