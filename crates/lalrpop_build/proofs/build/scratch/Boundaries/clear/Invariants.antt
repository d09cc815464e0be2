use Rattle.std.proofs.Common.{◌≡◌, length}
use Rattle.lalrpop_build.specs.Internal.Scratch.{AreMarked}
use Rattle.lalrpop_build.proofs.build.scratch.Boundaries.clear.Given as goal

abbrev pub invariant-loop-number : goal.invariant-loop-number
invariant-loop-number l = record {
  marked : AreMarked l.self.marks.items l.self.groups.items;
  count : length l.self.marks.items ≡ length l.fn.self.marks.items;
}

abbrev pub decreases-loop-number : goal.decreases-loop-number
decreases-loop-number l = length l.self.groups.items
