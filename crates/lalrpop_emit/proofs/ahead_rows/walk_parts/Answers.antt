use Rattle.std.proofs.Common.{◌≡◌, ◌+◌, ◌*◌, ◌/◌, ◌<◌, ℕ, length, List, length-set, slice_index, ap, ◌∙◌, sym, subst, arith}
use Rattle.std.proofs.lemmas.List.Elements.{All-get_or}
use Rattle.lalrpop_emit.specs.Internal.AheadRows.{IsRowOf, AreRuns}
use Rattle.lalrpop_emit.specs.Internal.Lists.{ahead_numbers}
use Rattle.lalrpop_emit.proofs.AheadWalks.{parts_apart, walks_more, walked_rows, walked_runs}
use Rattle.lalrpop_emit.proofs.ahead_rows.walk_parts.Goals as goal

pub step-row-requires : goal.step-row-requires
step-row-requires c =
    let columns = c.args.columns.now in
    let part = length columns / 6 in
    let walk = c.loop-walk.walk in
    let among : walk < 6 = omega (arith, c.loop-walk-test.true) in
    let within : walk * part + c.loop-k.k < length columns = omega (arith, c.requires.parts.1, parts_apart part walk 6 among, c.loop-k-test.true) in
    let below = All-get_or (λ column. column < c.args.ahead.now.width) columns (walk * part + c.loop-k.k) 0 within c.requires.columns in
    omega (arith, (c.loop-walk.invariant.walked.left walk (omega arith) among).is_row.2, below, ap length c.deref-cells.ensures.value)

pub loop-walk-preserved : goal.loop-walk-preserved
loop-walk-preserved c =
    let a = ahead_numbers c.args.ahead.now in
    let columns = c.args.columns.now in
    let part = length columns / 6 in
    let walk = c.loop-walk.walk in
    let w = c.loop-walk.invariant.walked in
    let place = walk * part + c.loop-k.k in
    let among : walk < 6 = omega (arith, c.loop-walk-test.true) in
    let size : length c.loop-walk.rows ≡ 6 * part = omega (arith, c.requires.parts.1, c.loop-walk.auto.rows, c.requires.as_many) in
    let within : place < length columns = omega (arith, c.requires.parts.1, parts_apart part walk 6 among, c.loop-k-test.true) in
    let below = All-get_or (λ column. column < a.width) columns place 0 within c.requires.columns in
    let next = c.step-row.result in
    let from = slice_index c.loop-walk.last walk + slice_index columns place in
    let is : next ≡ slice_index a.cells from = c.step-row.ensures ∙ ap (λ (cells : List ℕ). slice_index cells from) c.deref-cells.ensures.value in
    record {
      six = length-set c.loop-walk.last walk next ∙ c.loop-walk.invariant.six;
      walked =
          walks_more a columns c.loop-walk.rows part c.loop-k.k c.loop-walk.last walk next size c.loop-walk.invariant.six (omega (arith, c.loop-k-test.true)) among
          (subst (IsRowOf a) (sym is) (c.requires.closed.leads (slice_index c.loop-walk.last walk) (slice_index columns place) (w.left walk (omega arith) among).is_row below))
          is w;
    }

pub returns-clause-rows : goal.returns-clause-rows
returns-clause-rows c = λ k d within.
    let a = ahead_numbers c.args.ahead.now in
    let part = length c.args.columns.now / 6 in
    let size : length c.loop-k.rows ≡ 6 * part = omega (arith, c.requires.parts.1, c.loop-k.auto.rows, c.requires.as_many) in
    All-get_or (IsRowOf a) c.loop-k.rows k d within
    (walked_rows a c.args.columns.now c.loop-k.rows part c.loop-k.k c.loop-k.last size (omega (arith, c.loop-k-test.false)) c.loop-k.invariant.walked)

pub returns-clause-runs : goal.returns-clause-runs
returns-clause-runs c = λ parts are.
    let a = ahead_numbers c.args.ahead.now in
    let part = length c.args.columns.now / 6 in
    let same : part ≡ parts = omega (arith, are) in
    let size : length c.loop-k.rows ≡ 6 * part = omega (arith, are, c.loop-k.auto.rows, c.requires.as_many) in
    subst (λ (n : ℕ). AreRuns a n c.args.columns.now c.loop-k.rows) same
    (walked_runs a c.args.columns.now c.loop-k.rows part c.loop-k.k c.loop-k.last size (omega (arith, c.loop-k-test.false)) c.loop-k.invariant.walked)
