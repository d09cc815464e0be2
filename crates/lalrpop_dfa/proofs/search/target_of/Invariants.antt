use Rattle.std.proofs.Common.{◌-◌, ◌≤◌, length}
use Rattle.lalrpop_dfa.proofs.EdgeTargets.{IsNarrowed, AreProbed}
use Rattle.lalrpop_dfa.proofs.search.target_of.Given as goal

abbrev pub invariant-loop-first : goal.invariant-loop-first
invariant-loop-first l = record {
  narrowed : IsNarrowed l.edges l.value l.first l.end;
  probed : AreProbed (length l.edges) (l.end - l.first) l.fn.probes l.probes;
  more : l.fn.probes ≤ l.probes;
}

abbrev pub decreases-loop-first : goal.decreases-loop-first
decreases-loop-first l = l.end - l.first
