use Rattle.std.proofs.Common.{◌-◌, length, arith}
use Rattle.lalrpop_dfa.proofs.EdgeTargets.{at_place, narrowed_none, narrowed_below, narrowed_above, probed_more}
use Rattle.lalrpop_dfa.proofs.search.target_of.Goals as goal

pub loop-first-preserved-then-value-start : goal.loop-first-preserved-then-value-start
loop-first-preserved-then-value-start c =
    let ts = c.args.edges.now in
    let h = c.loop-first.invariant in
    let at = at_place ts _ c.index-edges-middle.result (omega (arith, c.loop-first-test.true, h.narrowed.within)) c.index-edges-middle.is in
    record {
      narrowed = narrowed_below ts c.requires c.args.value c.loop-first.first c.loop-first.end _ c.index-edges-middle.result h.narrowed (omega (arith, c.loop-first-test.true)) at (omega (arith, c.if-value-start.true, c.start.ensures.value));
      probed = probed_more (length ts) (c.loop-first.end - c.loop-first.first) _ c.args.probes.now c.loop-first.probes c.tick.new.self h.probed (omega (arith, c.loop-first-test.true)) (omega arith) c.tick.ensures.counted;
      more = omega (arith, h.more, c.tick.ensures.counted);
    }

pub loop-first-preserved : goal.loop-first-preserved
loop-first-preserved c =
    let ts = c.args.edges.now in
    let h = c.loop-first.invariant in
    let at = at_place ts _ c.index-edges-middle.result (omega (arith, c.loop-first-test.true, h.narrowed.within)) c.index-edges-middle.is in
    record {
      narrowed = narrowed_above ts c.requires c.args.value c.loop-first.first c.loop-first.end _ c.index-edges-middle.result h.narrowed (omega (arith, c.loop-first-test.true)) at (omega (arith, c.if-end-value.true, c.end.ensures.value));
      probed = probed_more (length ts) (c.loop-first.end - c.loop-first.first) _ c.args.probes.now c.loop-first.probes c.tick.new.self h.probed (omega (arith, c.loop-first-test.true)) (omega (arith, c.loop-first-test.true)) c.tick.ensures.counted;
      more = omega (arith, h.more, c.tick.ensures.counted);
    }

pub returns-clause-none : goal.returns-clause-none
returns-clause-none c = narrowed_none c.args.edges.now c.args.value c.loop-first.first c.loop-first.end c.loop-first.invariant.narrowed (omega (arith, c.loop-first-test.false))
