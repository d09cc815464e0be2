use Rattle.std.proofs.Common.{◌≤◌, length-take-le, ◌<◌, ℕ, List, length, take, drop, slice_index, refl, sym, ap, subst, ◌∙◌, arith}
use Rattle.std.specs.Vec.{with_items}
use Rattle.std.proofs.lemmas.List.{with_items_is, get_or_read}
use Rattle.lalrpop_emit.specs.Internal.Columns.{AreColumns}
use Rattle.lalrpop_emit.specs.Internal.AheadRows.{AreStandings}
use Rattle.lalrpop_emit.specs.Internal.Lists.{ahead_numbers, list_numbers}
use Rattle.lalrpop_emit.specs.Internal.Running.{IsWordOf}
use Rattle.lalrpop_emit.proofs.RunFills.{at_beginning, filled}
use Rattle.lalrpop_emit.proofs.ahead_driver.fill_block.Goals.{After-deref}
use Rattle.lalrpop_emit.proofs.ahead_driver.fill_block.Goals as goal

rows_fit : (c : After-deref) → c.args.size ≤ length c.deref.result.now
rows_fit c =
    let old = c.args.run.now in
    let new = c.run_through.new in
    let rows = with_items_is old.rows new.rows (c.run_through.auto.rows ∙ ap length c.deref_mut-2.ensures.value ∙ sym old.rows.ok.0) in
    omega (arith, c.requires.most, old.rows.ok, ap length rows, c.run_through.auto.rows, ap length c.deref_mut-2.ensures.value, ap length c.deref.ensures.value)

pub slice_bounds-mark_ends-end : goal.slice_bounds-mark_ends-end
slice_bounds-mark_ends-end c = sym (length-take-le c.args.size c.deref.result.now (rows_fit (goal.at.slice_bounds-mark_ends-end c).After-deref))

pub returns-clause-run : goal.returns-clause-run
returns-clause-run c =
    let a = ahead_numbers c.args.ahead.now in
    let t = list_numbers c.args.table.now in
    let right = c.requires.right.right in
    let size = c.args.size in
    let old = c.args.run.now in
    let new = c.run_through.new in
    let marked = c.mark_ends.new.ends in
    let fits = rows_fit (goal.at.returns-clause-run c).After-deref in
    let columns = with_items_is old.columns new.columns (c.run_through.auto.columns ∙ ap length c.deref_mut.ensures.value ∙ sym old.columns.ok.0) in
    let rows = with_items_is old.rows new.rows (c.run_through.auto.rows ∙ ap length c.deref_mut-2.ensures.value ∙ sym old.rows.ok.0) in
    let ends = with_items_is old.ends marked (c.mark_ends.auto.ends ∙ ap length c.deref_mut-3.ensures.value ∙ sym old.ends.ok.0) in
    filled a t right c.args.text.now _ c.requires.classes
    (record {
      words = c.requires.parts.0;
      whole = c.requires.parts.2;
      some = c.requires.parts.1;
      fits = omega arith;
      inside = c.requires.left;
      in_rows = omega (arith, ap length c.deref.ensures.value, fits);
      columns = subst (λ (cs : List ℕ). AreColumns t a.width 0 (drop c.args.at c.args.text.now) (take size cs)) (sym columns) c.run_through.ensures.columns;
      rows =
          subst (λ (cs : List ℕ). AreStandings a t right.standings (take size cs) (take size (with_items old.rows new.rows).items)) (sym columns)
          (subst (λ (rs : List ℕ). AreStandings a t right.standings (take size new.columns) (take size rs)) (sym rows) (c.run_through.ensures.rows right));
      ends = λ w l.
          subst (λ (es : List ℕ). IsWordOf a.ends (take size (with_items old.rows new.rows).items) w (slice_index es w)) (sym ends)
          (subst (λ (rs : List ℕ). IsWordOf a.ends (take size rs) w (slice_index marked w)) c.deref.ensures.value
          (c.mark_ends.ensures w (omega (arith, l, length-take-le size c.deref.result.now fits))));
    })

pub returns-clause-place : goal.returns-clause-place
returns-clause-place c =
    let old = c.args.run.now in
    let marked = c.mark_ends.new.ends in
    let ends = with_items_is old.ends marked (c.mark_ends.auto.ends ∙ ap length c.deref_mut-3.ensures.value ∙ sym old.ends.ok.0) in
    let some : 0 < length (with_items old.ends marked).items = omega (arith, c.requires.parts.1, c.requires.most, c.requires.room.ends, old.ends.ok, ap length ends, c.mark_ends.auto.ends, ap length c.deref_mut-3.ensures.value) in
    at_beginning (ahead_numbers c.args.ahead.now) (list_numbers c.args.table.now) c.args.text.now _ (returns-clause-run c)
    (omega (arith, c.requires.parts.1, c.requires.parts.2)) refl
    (get_or_read (with_items old.ends marked).items 0 c.index.result.now some c.index.ensures 0)
