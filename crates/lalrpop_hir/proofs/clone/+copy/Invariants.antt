use Rattle.std.proofs.Common.{◌≡◌, ◌+◌, ◌*◌, take}
use Rattle.lalrpop_hir.specs.Parts.{trees}
use Rattle.lalrpop_hir.specs.Internal.Depth.{depth, greatest_depth}
use Rattle.lalrpop_hir.specs.Level.{kind_tree}
use Rattle.lalrpop_hir.proofs.clone.+copy.Given as goal

abbrev pub invariant-copy_all-loop-sub : goal.invariant-copy_all-loop-sub
invariant-copy_all-loop-sub l = l.copies.items ≡ take l.sub-index l.subs

abbrev pub decreases-copy : goal.decreases-copy
decreases-copy l = 2 * depth l.hir.now + 1

abbrev pub decreases-copy_kind : goal.decreases-copy_kind
decreases-copy_kind l = 2 * depth (kind_tree l.kind.now)

abbrev pub decreases-copy_repetition : goal.decreases-copy_repetition
decreases-copy_repetition l = 2 * depth l.r.now.sub + 2

abbrev pub decreases-copy_capture : goal.decreases-copy_capture
decreases-copy_capture l = 2 * depth l.c.now.sub + 2

abbrev pub decreases-copy_all : goal.decreases-copy_all
decreases-copy_all l = 2 * greatest_depth (trees l.subs.now) + 2
