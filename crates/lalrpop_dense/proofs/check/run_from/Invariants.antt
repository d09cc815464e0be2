use Rattle.std.proofs.Common.{◌≡◌, ℕ, ◌-◌, ◌<◌, ◌≤◌}
use Rattle.lalrpop_dense.specs.Internal.Table.{class_of}
use Rattle.lalrpop_dense.proofs.check.run_from.Given as goal

abbrev pub invariant-loop-end : goal.invariant-loop-end
invariant-loop-end l = record {
  some : l.start < l.end;
  within : l.end ≤ 1114112;
  alike : (c : ℕ) → l.start ≤ c → c < l.end → class_of l.layout c ≡ l.class;
}

abbrev pub decreases-loop-end : goal.decreases-loop-end
decreases-loop-end l = 1114112 - l.end
