use Rattle.std.proofs.Common.{◌≡◌, ◌++◌}
use Rattle.lalrpop_nfa.specs.Internal.Sweep.{starts_of, ends_of}
use Rattle.lalrpop_nfa.proofs.overlap.ends_of_ranges.Given as goal

abbrev pub invariant-loop-range : goal.invariant-loop-range
invariant-loop-range l = record {
  starts : l.starts.items ++ starts_of l.range-iterator ≡ starts_of l.ranges.keys;
  ends : l.ends.items ++ ends_of l.range-iterator ≡ ends_of l.ranges.keys;
}
