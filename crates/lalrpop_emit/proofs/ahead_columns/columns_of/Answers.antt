use Rattle.std.proofs.Common.{◌≡◌, ◌+◌, ◌-◌, ◌≤◌, ◌++◌, ℕ, List, length, take, drop, sym, subst, ap, ◌∙◌, arith}
use Rattle.std.proofs.lemmas.List.{length-take-le, length-drop}
use Rattle.std.proofs.lemmas.Slice.{take-put_mid}
use borrow.Rule.Slice.PartMut.{put_mid, same_len_mid}
use Rattle.lalrpop_emit.specs.Internal.Lists.{list_numbers}
use Rattle.lalrpop_emit.proofs.BlockColumns.{GoOn, go_on_ascii, go_on_more, go_on_last}
use Rattle.lalrpop_emit.proofs.ahead_columns.columns_of.Goals as goal

pub slice_bounds-bytes-end : goal.slice_bounds-bytes-end
slice_bounds-bytes-end c = omega (arith, c.min-stop.ensures, (c.if-is_ascii_run.ensures (c.args.from + c.runs.at + 31) (omega arith) (omega arith)).0)

pub runs-preserved-then-is_ascii_run : goal.runs-preserved-then-is_ascii_run
runs-preserved-then-is_ascii_run c =
    let t = list_numbers c.args.table.now in
    let width = c.args.ahead.now.width in
    let text = c.args.text.now in
    let from = c.args.from in
    let columns = c.runs.columns in
    let at = c.runs.at in
    let stop = c.min-stop.result in
    let size = stop - at in
    let new = c.ascii_columns.new.columns in
    let columns2 = put_mid at size columns new in
    let none : c.runs.left ≡ 0 = omega (arith, c.if-left-eq0.true) in
    let most : (at ≤ stop) × (stop ≤ at + 32) × (stop ≤ length columns) = (omega (arith, c.min-stop.ensures, c.runs-test.true, c.runs.auto.columns), omega (arith, c.min-stop.ensures), omega (arith, c.min-stop.ensures, c.runs.auto.columns)) in
    let inside : from + at + 32 ≤ length text = omega (arith, (c.if-is_ascii_run.ensures (from + at + 31) (omega arith) (omega arith)).0) in
    let all : at + size ≡ stop = omega (arith, most.0) in
    let same : from + stop - (from + at) ≡ size = omega arith in
    let is : new ≡ take size (drop (from + at) text) = c.ascii_columns.ensures ∙ ap (λ (n : ℕ). take n (drop (from + at) text)) same in
    let long : length new ≡ size = ap length is ∙ length-take-le size (drop (from + at) text) (omega (arith, length-drop (from + at) text, inside, most.1)) in
    let written : take (at + size) columns2 ≡ take at columns ++ take size (drop (from + at) text) =
    take-put_mid at size columns new (at + size) (omega (arith, long)) (omega (arith, most.0, most.2)) ∙ ap (λ (ys : List ℕ). take at columns ++ ys) is in
    let on = go_on_ascii t width text from columns columns2 at size (omega (arith, inside, most.1)) (λ i l m. (c.if-is_ascii_run.ensures i l (omega (arith, m, most.1))).1) written
    (subst (λ (n : ℕ). GoOn t width text from columns at n) none c.runs.invariant.columns) in
    record {
      within = omega (arith, most.2, same_len_mid at size columns new c.ascii_columns.auto.columns);
      columns = subst (λ (n : ℕ). GoOn t width text from columns2 stop n) (sym none) (subst (λ (n : ℕ). GoOn t width text from columns2 n 0) all on);
    }

pub any-preserved : goal.any-preserved
any-preserved c =
    go_on_more (list_numbers c.args.table.now) c.args.ahead.now.width c.args.text.now c.args.from c.any.columns c.any.k c.any.left c.next_column-next.result.left c.next_column-next.result.number
    (omega (arith, c.any-test.true, c.min-stop.ensures, c.any.auto.columns, c.runs.auto.columns)) c.any.invariant c.next_column-next.ensures

pub returns : goal.returns
returns c =
    go_on_last (list_numbers c.args.table.now) c.args.ahead.now.width c.args.text.now c.args.from c.runs.columns c.runs.at c.runs.left (omega (arith, c.runs-test.false, c.runs.auto.columns)) c.runs.invariant.columns
