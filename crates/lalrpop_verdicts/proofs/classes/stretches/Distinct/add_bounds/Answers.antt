use Rattle.lalrpop_dfa.proofs.EdgeTargets.{at_place}
use Rattle.lalrpop_verdicts.proofs.StretchLaws.{bounded_all, bounded_more}
use Rattle.lalrpop_verdicts.proofs.classes.stretches.Distinct.add_bounds.Goals as goal

pub loop-test-preserved : goal.loop-test-preserved
loop-test-preserved c =
    let edges = c.args.edges.now in
    let i = c.loop-test.test-index in
    let item = c.loop-test-item.result in
    let at = at_place edges i item c.loop-test-test.true c.loop-test-item.is in
    record {
      listed = c.in_ok-add_ends.ensures.listed;
      more = λ v m. c.in_ok-add_ends.ensures.more v (c.loop-test.invariant.more v m);
      bounded = bounded_more edges c.loop-test.self.values.items c.add_ends.new.self.values.items i item c.loop-test.invariant.bounded c.in_ok-add_ends.ensures.more at c.in_ok-add_ends.ensures.bounded;
    }

pub returns-clause-bounded : goal.returns-clause-bounded
returns-clause-bounded c = bounded_all c.args.edges.now c.loop-test.self.values.items c.loop-test.test-index c.loop-test.invariant.bounded c.loop-test-test.false
