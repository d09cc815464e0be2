use Rattle.std.proofs.Common.{◌≡◌, ◌+◌, ◌<◌, ℕ, List, length, length-set, slice_index, ap, ◌∙◌, sym, subst, arith}
use Rattle.std.proofs.lemmas.List.Elements.{All-get_or}
use Rattle.lalrpop_emit.specs.Internal.AheadRows.{IsRowOf}
use Rattle.lalrpop_emit.specs.Internal.Lists.{ahead_numbers}
use Rattle.lalrpop_emit.proofs.AheadRows.{walked_on_more, walked_on}
use Rattle.lalrpop_emit.proofs.ahead_rows.walk_on.Goals as goal

pub step-next-requires : goal.step-next-requires
step-next-requires c =
    let below = All-get_or (λ column. column < c.args.ahead.now.width) c.args.columns.now c.walk.at 0 (omega (arith, c.walk-test.true)) c.requires.columns in
    omega (arith, c.walk.invariant.walked.is_row.2, below, ap length c.deref-cells.ensures.value)

pub step-requires : goal.step-requires
step-requires c =
    let below = All-get_or (λ column. column < c.args.ahead.now.width) c.args.columns.now c.same.at 0 (omega (arith, c.if-at-columns.true)) c.requires.columns in
    omega (arith, c.same.invariant.walked.is_row.2, below, ap length c.deref-cells.ensures.value)

pub same-init : goal.same-init
same-init c =
    let a = ahead_numbers c.args.ahead.now in
    let columns = c.args.columns.now in
    let at = c.walk.at in
    let w = c.walk.invariant.walked in
    let below = All-get_or (λ column. column < a.width) columns at 0 (omega (arith, c.walk-test.true)) c.requires.columns in
    let from = c.walk.row + slice_index columns at in
    let is : c.step-next.result ≡ slice_index a.cells from = c.step-next.ensures ∙ ap (λ (cells : List ℕ). slice_index cells from) c.deref-cells.ensures.value in
    record {
      further = omega arith;
      within = omega (arith, c.walk-test.true);
      walked =
          walked_on_more a columns c.args.rows.now c.walk.rows c.args.from at c.walk.row c.step-next.result (omega (arith, c.walk-test.true, c.walk.auto.rows, c.requires.as_many)) w
          (subst (IsRowOf a) (sym is) (c.requires.closed.leads c.walk.row (slice_index columns at) w.is_row below)) is;
    }

pub same-preserved : goal.same-preserved
same-preserved c =
    let w = c.same.invariant.walked in
    let next = c.step-next.result in
    let from = next + slice_index c.args.columns.now c.same.at in
    let is = c.step.ensures ∙ ap (λ (cells : List ℕ). slice_index cells from) c.deref-cells.ensures.value in
    record {
      further = omega (arith, c.same.invariant.further);
      within = omega (arith, c.if-at-columns.true);
      walked =
          walked_on_more (ahead_numbers c.args.ahead.now) c.args.columns.now c.args.rows.now c.same.rows c.args.from c.same.at next next
          (omega (arith, c.if-at-columns.true, c.same.auto.rows, c.walk.auto.rows, length-set c.walk.rows c.walk.at next, c.requires.as_many)) w w.is_row (sym c.if-step-next.true ∙ is);
    }

pub returns-then-rows-at-clause-steps : goal.returns-then-rows-at-clause-steps
returns-then-rows-at-clause-steps c =
    let a = ahead_numbers c.args.ahead.now in
    let w = c.walk.invariant.walked in
    let column = slice_index c.args.columns.now c.walk.at in
    walked_on a c.args.columns.now c.args.rows.now c.walk.rows c.args.from c.walk.at c.walk.row w
    (λ more. c.if-rows-at.true ∙ c.step-next.ensures ∙ ap (λ (cells : List ℕ). slice_index cells (c.walk.row + column)) c.deref-cells.ensures.value ∙ ap (λ (row : ℕ). slice_index a.cells (row + column)) w.row_is)

pub returns-clause-steps : goal.returns-clause-steps
returns-clause-steps c =
    walked_on (ahead_numbers c.args.ahead.now) c.args.columns.now c.args.rows.now c.walk.rows c.args.from c.walk.at c.walk.row c.walk.invariant.walked
    (λ more. absurd (omega (arith, more, c.walk-test.false)))
