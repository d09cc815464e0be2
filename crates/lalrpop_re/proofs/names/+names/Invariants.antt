use Rattle.std.proofs.Common.{◌≡◌, ◌+◌, ◌*◌, ◌++◌, map, take}
use Rattle.lalrpop_hir.specs.Parts.{trees}
use Rattle.lalrpop_hir.specs.Internal.Depth.{depth, greatest_depth}
use Rattle.lalrpop_re.specs.GroupName.{all_names}
use Rattle.lalrpop_re.proofs.names.+names.Given as goal

abbrev pub decreases-collect_names : goal.decreases-collect_names
decreases-collect_names l = 2 * depth l.tree.now + 1

abbrev pub decreases-collect_all : goal.decreases-collect_all
decreases-collect_all l = 2 * greatest_depth (trees l.parts.now) + 2

abbrev pub invariant-collect_all-loop-part : goal.invariant-collect_all-loop-part
invariant-collect_all-loop-part l = map (λ n. n.now) l.found.items ≡ map (λ n. n.now) l.fn.found.items ++ all_names (trees (take l.part-index l.parts))
