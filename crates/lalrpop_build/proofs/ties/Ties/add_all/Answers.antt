use Rattle.std.proofs.Common.{◌≡◌, ◌-◌, ◌+◌, ◌<◌, length, subst, arith, ℕ}
use Rattle.lalrpop_build.specs.Internal.BreadthFirst.{word}
use Rattle.lalrpop_build.specs.Internal.Ties.{HasTiesTo}
use Rattle.lalrpop_build.proofs.TieSteps.{ties_none, ties_row, ties_step, read_at}
use Rattle.lalrpop_build.proofs.ties.Ties.add_all.Goals as goal

pub loop-upper-init : goal.loop-upper-init
loop-upper-init c = record {
  added = ties_none c.args.strongest.now (word c.args.origins.now c.args.number) c.args.self.now.clashes.items;
  pairs = c.requires.pairs;
}

pub loop-lower-init : goal.loop-lower-init
loop-lower-init c = record {
  added = ties_row c.args.strongest.now (word c.args.origins.now c.args.number) c.args.self.now.clashes.items c.loop-upper.self.clashes.items c.loop-upper.upper (c.loop-upper.upper - 1) (omega (arith, c.loop-upper-test.true)) c.loop-upper.invariant.added;
  pairs = c.loop-upper.invariant.pairs;
}

pub loop-lower-preserved : goal.loop-lower-preserved
loop-lower-preserved c =
    let upper : ℕ = c.loop-upper.upper - 1 in
    let lower : ℕ = c.loop-lower.lower - 1 in
    let next : c.loop-lower.lower ≡ lower + 1 = omega (arith, c.loop-lower-test.true) in
    let high : upper < length c.args.strongest.now = omega (arith, c.loop-upper.auto.upper, c.loop-upper-test.true) in
    let below : lower < upper = omega (arith, c.loop-lower.auto.lower, c.loop-lower-test.true) in
    record {
      added = ties_step c.args.strongest.now (word c.args.origins.now c.args.number) c.args.self.now.clashes.items c.requires.ascending c.loop-lower.self.clashes.items c.add.new.self.clashes.items upper lower c.index-strongest-upper.result c.index-strongest-lower.result
          (read_at c.args.strongest.now upper c.index-strongest-upper.result high c.index-strongest-upper.is) (read_at c.args.strongest.now lower c.index-strongest-lower.result (omega (arith, high)) c.index-strongest-lower.is) below
          (subst (λ (k : ℕ). HasTiesTo c.args.strongest.now (word c.args.origins.now c.args.number) c.args.self.now.clashes.items c.loop-lower.self.clashes.items upper k) next c.loop-lower.invariant.added)
          c.in_ok-add.ensures.added;
      pairs = c.in_ok-add.ensures.pairs;
    }
