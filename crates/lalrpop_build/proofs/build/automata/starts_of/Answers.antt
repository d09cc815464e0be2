use Rattle.std.proofs.Common.{rules, ◌<◌, length}
use Rattle.lalrpop_build.specs.Internal.Subsets.{starts_from}
use Rattle.lalrpop_build.proofs.Adding.{starts_more}
use Rattle.lalrpop_build.proofs.build.automata.starts_of.Goals as goal

pub loop-index-preserved : goal.loop-index-preserved
loop-index-preserved c =
    let l : c.loop-index.index < length c.args.nfas.now = search rules in
    rw (c.in_ok-push.ensures.items, c.new-in-loop-index.ensures.value, c.new.ensures.value) (starts_more c.args.nfas.now c.loop-index.starts.items (starts_from 0 c.args.nfas.now) c.loop-index.index l c.loop-index.invariant)
