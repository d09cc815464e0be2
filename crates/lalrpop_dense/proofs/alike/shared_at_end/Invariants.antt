use Rattle.std.proofs.Common.{◌-◌, length}
use Rattle.lalrpop_dense.specs.Internal.Alikes.{SameEnd}
use Rattle.lalrpop_dense.proofs.alike.shared_at_end.Given as goal

abbrev pub invariant-loop-shared : goal.invariant-loop-shared
invariant-loop-shared l = SameEnd l.left l.right l.shared

abbrev pub decreases-loop-shared : goal.decreases-loop-shared
decreases-loop-shared l = length l.left - l.shared
