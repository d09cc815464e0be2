use Rattle.std.proofs.Common.{◌≡◌, length}
use Rattle.lalrpop_build.specs.Internal.ClassTransitions.{HaveNoEdges}
use Rattle.lalrpop_build.proofs.build.scratch.classes_without_edges.Given as goal

abbrev pub invariant-loop : goal.invariant-loop
invariant-loop l = record {
  count : length l.classes.items ≡ l.counter;
  no_edges : HaveNoEdges l.classes.items;
}
