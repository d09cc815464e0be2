use Rattle.std.proofs.Common.{ℕ, ◌-◌, ap, arith}
use Rattle.lalrpop_hir.specs.Range.{Range}
use Rattle.lalrpop_dfa.proofs.EdgeTargets.{at_place}
use Rattle.lalrpop_dense.proofs.Alikes.{end_before}
use Rattle.lalrpop_dense.proofs.alike.end_of.Goals as goal

pub returns-else-end : goal.returns-else-end
returns-else-end c = λ k t l e.
    let ts = c.args.edges.now in
    let last = c.index-edges-count.result in
    omega (arith, ap (λ (x : Range × ℕ). x.0.end) c.index-edges-count.is, end_before ts c.requires.ascending c.args.count last (omega arith) (at_place ts (c.args.count - 1) last (omega arith) c.index-edges-count.is) k t l e)
