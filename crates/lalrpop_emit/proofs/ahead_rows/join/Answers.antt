use Rattle.std.proofs.Common.{◌≡◌, ◌/◌, ℕ, length, subst, arith}
use Rattle.lalrpop_emit.specs.Internal.AheadRows.{AreRuns}
use Rattle.lalrpop_emit.specs.Internal.Lists.{ahead_numbers}
use Rattle.lalrpop_emit.proofs.AheadWalks.{parts_apart, joined_first, joined_more}
use Rattle.lalrpop_emit.proofs.ahead_rows.join.Goals as goal

pub loop-walk-init : goal.loop-walk-init
loop-walk-init c =
    let a = ahead_numbers c.args.ahead.now in
    let columns = c.args.columns.now in
    let same : c.requires.runs.0 ≡ length columns / 6 = omega (arith, c.requires.runs.2) in
    record {
      rows = c.requires.rows;
      joined = joined_first a columns c.args.rows.now (length columns / 6) c.requires.as_many (subst (λ (n : ℕ). AreRuns a n columns c.args.rows.now) same c.requires.runs.3);
    }

pub walk_on-requires-clause-place : goal.walk_on-requires-clause-place
walk_on-requires-clause-place c =
    let part = length c.args.columns.now / 6 in
    let walk = c.loop-walk.walk in (
      omega (arith, parts_apart part 0 walk (omega (arith, c.loop-walk.auto.walk)), c.requires.runs.1, c.requires.runs.2),
      omega (arith, parts_apart part walk 6 (omega (arith, c.loop-walk-test.true))),
    )

pub loop-walk-preserved : goal.loop-walk-preserved
loop-walk-preserved c =
    let columns = c.args.columns.now in
    record {
      rows = c.walk_on.ensures.rows;
      joined = joined_more (ahead_numbers c.args.ahead.now) columns c.loop-walk.rows c.walk_on.new.rows (length columns / 6) c.loop-walk.walk c.walk_on.ensures.steps c.loop-walk.invariant.joined;
    }
