use Rattle.std.proofs.Common.{length, ◌-◌, ◌+◌}
use Rattle.lalrpop_hir.proofs.Merging.{IsMerging}
use Rattle.lalrpop_hir.proofs.class.operations.merge_characters.Given as goal

abbrev pub invariant-loop-i : goal.invariant-loop-i
invariant-loop-i l = IsMerging l.left l.right l.i l.j l.ranges.items

abbrev pub decreases-loop-i : goal.decreases-loop-i
decreases-loop-i l = (length l.left - l.i) + (length l.right - l.j)
