use Rattle.std.proofs.Common.{arith, ap}
use Rattle.lalrpop_hir.specs.Internal.Depth.{depth}
use Rattle.lalrpop_hir.specs.Internal.TreeFalls.{depth-le-greatest}
use Rattle.lalrpop_hir.proofs.clone.+copy.Goals as goal

pub copy_all-copy-requires : goal.copy_all-copy-requires
copy_all-copy-requires t c =
    let ts = c.args.subs.now in
    let less = depth-le-greatest ts c.loop-sub.sub-index c.sub-item.result c.loop-sub-test.true in
    (omega (arith, less, ap depth c.sub-item.is), tt)
