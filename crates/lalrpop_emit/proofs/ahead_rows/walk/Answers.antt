use Rattle.std.proofs.Common.{◌≡◌, ◌<◌, ◌++◌, ℕ, List, length, drop, sym, ap, subst, ◌∙◌, arith, length-take-le}
use Rattle.std.specs.List.{All}
use Rattle.std.proofs.lemmas.List.{append-nil, take_all}
use Rattle.std.proofs.Math.ListN.{drop_of_length-le}
use Rattle.lalrpop_emit.specs.Internal.AheadRows.{IsRowOf, AreRuns}
use Rattle.lalrpop_emit.specs.Internal.Lists.{ahead_numbers}
use Rattle.lalrpop_emit.proofs.ahead_rows.walk.Goals as goal

-- what was written in place of all elements
written : (count : ℕ) (new old : List ℕ) → length old ≡ count → new ++ drop count old ≡ new
written count new old size = ap (λ rest. new ++ rest) (drop_of_length-le old (omega (arith, size))) ∙ append-nil new

pub slice_bounds-walk_parts-end : goal.slice_bounds-walk_parts-end
slice_bounds-walk_parts-end c = sym (length-take-le 6144 c.args.columns.now (omega (arith, c.if-columns-eq-MOST.true)))

pub slice_bounds-walk_parts-end-then-columns-eq-MOST-2 : goal.slice_bounds-walk_parts-end-then-columns-eq-MOST-2
slice_bounds-walk_parts-end-then-columns-eq-MOST-2 c = sym (length-take-le 6144 c.args.rows.now (omega (arith, c.if-columns-eq-MOST.true, c.requires.as_many)))

pub walk_parts-requires-clause-columns : goal.walk_parts-requires-clause-columns
walk_parts-requires-clause-columns c =
    subst (λ (columns : List ℕ). All (λ column. column < c.args.ahead.now.width) columns) (sym (take_all 6144 c.args.columns.now (omega (arith, c.if-columns-eq-MOST.true)))) c.requires.columns

pub walk_parts-requires-clause-parts : goal.walk_parts-requires-clause-parts
walk_parts-requires-clause-parts c = (1024, omega (arith, length-take-le 6144 c.args.columns.now (omega (arith, c.if-columns-eq-MOST.true))))

pub walk_parts-requires-clause-as_many : goal.walk_parts-requires-clause-as_many
walk_parts-requires-clause-as_many c =
    length-take-le 6144 c.args.rows.now (omega (arith, c.if-columns-eq-MOST.true, c.requires.as_many)) ∙ sym (length-take-le 6144 c.args.columns.now (omega (arith, c.if-columns-eq-MOST.true)))

pub returns-then-columns-eq-MOST-clause-rows : goal.returns-then-columns-eq-MOST-clause-rows
returns-then-columns-eq-MOST-clause-rows c =
    subst (λ (rows : List ℕ). All (IsRowOf (ahead_numbers c.args.ahead.now)) rows) (sym (written 6144 c.walk_parts.new.rows c.args.rows.now (omega (arith, c.if-columns-eq-MOST.true, c.requires.as_many)))) c.walk_parts.ensures.rows

pub returns-then-columns-eq-MOST-clause-runs : goal.returns-then-columns-eq-MOST-clause-runs
returns-then-columns-eq-MOST-clause-runs c = λ part size.
    let columns = take_all 6144 c.args.columns.now (omega (arith, c.if-columns-eq-MOST.true)) in
    let a = ahead_numbers c.args.ahead.now in
    subst (λ (rows : List ℕ). AreRuns a part c.args.columns.now rows) (sym (written 6144 c.walk_parts.new.rows c.args.rows.now (omega (arith, c.if-columns-eq-MOST.true, c.requires.as_many))))
    (subst (λ (columns2 : List ℕ). AreRuns a part columns2 c.walk_parts.new.rows) columns (c.walk_parts.ensures.runs part (ap length columns ∙ size)))
