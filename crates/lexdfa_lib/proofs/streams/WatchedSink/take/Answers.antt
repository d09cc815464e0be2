use Rattle.std.proofs.Common.{◌-◌, ◌≤◌, length, drop, arith, ◌∙◌, length-take, length-drop}
use Rattle.lexdfa_lib.proofs.Known.{Appends-on, still_good}
use Rattle.lexdfa_lib.proofs.streams.WatchedSink.take.Goals as goal

pub loop-at-preserved : goal.loop-at-preserved
loop-at-preserved g c =
    let rest = drop c.loop-at.at c.args.bytes.now in
    let room = length c.args.bytes.now - c.loop-at.at in
    let t = length-take room rest in
    let d = length-drop c.loop-at.at c.args.bytes.now in
    let a = c.in-Ok.ensures.bound in
    let inside = c.loop-at.invariant.inside in
    let n : c.in-Ok.n ≤ room = omega arith in
    let good = c.loop-at.invariant.good in
    let failed = rw good at c.in-Ok.ensures.broken in
    let late = rw good at c.in-Ok.ensures.late in
    record {
      inside = omega arith;
      known = Appends-on _ _ _ c.loop-at.at c.in-Ok.n room c.args.bytes.now n (omega arith) c.loop-at.invariant.known c.in-Ok.ensures.taken;
      good = still_good _ c.in-Ok.n _ c.in-Ok.n-test.1 failed;
      no_late = late ∙ c.loop-at.invariant.no_late;
    }
