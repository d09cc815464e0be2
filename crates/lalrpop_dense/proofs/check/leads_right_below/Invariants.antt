use Rattle.std.proofs.Common.{◌-◌, ◌≤◌}
use Rattle.lalrpop_dfa.specs.Stored.{EndBefore}
use Rattle.lalrpop_dense.specs.Internal.Runs.{LeadsRightBelow}
use Rattle.lalrpop_dense.proofs.check.leads_right_below.Given as goal

-- the characters below the value are right
abbrev pub invariant-loop-run : goal.invariant-loop-run
invariant-loop-run l = record {
  passed : EndBefore l.edges l.place l.value;
  right : LeadsRightBelow l.layout l.cells l.dfa l.fn.index l.value;
}

abbrev pub invariant-loop-value : goal.invariant-loop-value
invariant-loop-value l = record {
  passed : EndBefore l.edges l.place l.value;
  right : LeadsRightBelow l.layout l.cells l.dfa l.fn.index l.value;
  from : l.run.start ≤ l.value;
}

abbrev pub decreases-loop-value : goal.decreases-loop-value
decreases-loop-value l = l.run.end - l.value
