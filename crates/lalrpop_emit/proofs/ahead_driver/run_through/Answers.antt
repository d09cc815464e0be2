use Rattle.std.proofs.Common.{◌≡◌, ◌*◌, ◌++◌, ℕ, List, length, take, drop, sym, ap, subst, ◌∙◌, arith, length-take-le}
use Rattle.std.proofs.Math.Seq.{take-append_seam}
use Rattle.lalrpop_emit.specs.Internal.AheadRows.{AreStandings}
use Rattle.lalrpop_emit.specs.Internal.Lists.{ahead_numbers, list_numbers}
use Rattle.lalrpop_emit.proofs.ahead_driver.run_through.Goals as goal

-- what was written is what the first elements are
written : (count : ℕ) (new rest : List ℕ) → length new ≡ count → take count (new ++ rest) ≡ new
written count new rest size = ap (λ (n : ℕ). take n (new ++ rest)) (sym size) ∙ take-append_seam new rest

pub fill-requires-clause-parts : goal.fill-requires-clause-parts
fill-requires-clause-parts c =
    let parts = c.requires.parts in
    (parts.0 * 64, omega (arith, parts.1), length-take-le c.args.size c.args.columns.now c.requires.room.0 ∙ omega (arith, parts.2))

pub returns-clause-rows : goal.returns-clause-rows
returns-clause-rows c = λ right.
    let size = c.args.size in
    let a = ahead_numbers c.args.ahead.now in
    let t = list_numbers c.args.table.now in
    let rest = drop size c.args.rows.now in
    let columns = written size c.fill.new.columns (drop size c.args.columns.now) (c.fill.auto.columns ∙ length-take-le size c.args.columns.now c.requires.room.0) in
    let rows = written size c.fill.new.rows rest (c.fill.auto.rows ∙ length-take-le size c.args.rows.now c.requires.room.1) in
    subst (λ (columns2 : List ℕ). AreStandings a t right.standings columns2 (take size (c.fill.new.rows ++ rest))) (sym columns)
    (subst (AreStandings a t right.standings c.fill.new.columns) (sym rows) (c.fill.ensures.rows right))
