use Rattle.std.proofs.Common.{◌≡◌, ◌∙◌, ◌%◌, ℕ, ap, arith, length}
use Rattle.lalrpop_emit.proofs.RowLists.{rows_more}
use Rattle.lalrpop_emit.proofs.made_table.all_rows.Goals as goal

pub loop-number-preserved : goal.loop-number-preserved
loop-number-preserved c =
    let d = c.args.dfa.now in
    let count : length c.states-count.result.now ≡ length d = omega (arith, c.states-count.ensures.states.same_length) in
    rows_more d c.args.firsts.now c.loop-number.cells.items c.push_row.new.cells.items c.loop-number.number c.new.result c.loop-number.invariant
    (c.new.ensures.value ∙ ap (λ (n : ℕ). c.loop-number.number % n) count) c.in_ok-push_row.ensures.row
