use Rattle.std.proofs.Common.{◌++◌, ap, ◌∙◌, map}
use Rattle.lalrpop_build.proofs.Moving.{default_start}
use Rattle.lalrpop_build.proofs.moves.push_default_targets.Goals as goal

pub loop-edge-init : goal.loop-edge-init
loop-edge-init c =
    ap (λ ys. c.args.targets.now.items ++ ys)
    (ap (map (λ e. (c.args.item.0, e.to))) (c.into_iter-edge-iterator.ensures.into_iter_gives ∙ c.edges-edge-items.ensures.edges)
    ∙ (rw c.state.ensures (default_start c.args.item.0 c.args.item.1 c.args.nfa.now.edges.others)))
