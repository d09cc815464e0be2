use Rattle.std.proofs.Common.{◌≡◌, ◌+◌, ◌-◌, length}
use Rattle.lalrpop_nfa.proofs.Sweep.{Swept}
use Rattle.lalrpop_nfa.proofs.overlap.remove_overlap_counted.Given as goal

abbrev pub invariant-loop-ended : goal.invariant-loop-ended
invariant-loop-ended l = record {
  swept : Swept l.ranges.keys l.starts.items l.ends.items l.blocks.items l.begun l.ended l.from;
  spent : l.steps ≡ l.fn.steps + (l.begun + l.ended);
}

abbrev pub decreases-loop-ended : goal.decreases-loop-ended
decreases-loop-ended l = (length l.starts.items - l.begun) + (length l.ends.items - l.ended)
