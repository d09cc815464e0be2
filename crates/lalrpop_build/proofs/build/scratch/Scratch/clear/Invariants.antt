use Rattle.std.proofs.Common.{◌≡◌, length}
use Rattle.lalrpop_build.specs.Internal.Scratch.{IsTidy}
use Rattle.lalrpop_build.proofs.build.scratch.Scratch.clear.Given as goal

abbrev pub invariant-loop-class : goal.invariant-loop-class
invariant-loop-class l = record {
  tidy : IsTidy l.self;
  classes : length l.self.edges.lists.items ≡ length l.fn.self.edges.lists.items;
  groups : length l.self.boundaries.marks.items ≡ length l.fn.self.boundaries.marks.items;
}

abbrev pub decreases-loop-class : goal.decreases-loop-class
decreases-loop-class l = length l.self.edges.used.items
