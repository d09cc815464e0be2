use Rattle.std.proofs.Common.{◌≤◌, ◌-◌}
use Rattle.lalrpop_dense.specs.Internal.SelfLoops.{AreIn}
use Rattle.lalrpop_dense.proofs.self_loop.SelfLoop.end.Given as goal

-- the bytes up to the place are among them
abbrev pub invariant-staying : goal.invariant-staying
invariant-staying l = record {
  on : l.at ≤ l.to;
  within : l.to ≤ l.end;
  stays : AreIn l.self l.bytes l.at l.to;
}

abbrev pub decreases-staying : goal.decreases-staying
decreases-staying l = l.end - l.to
