use Rattle.std.proofs.Common.{◌≡◌, ◌-◌, Some, length, sym, arith}
use Rattle.std.specs.Prelude.{slice_get}
use Rattle.std.proofs.lemmas.Option.{slice_get_within}
use Rattle.lalrpop_dfa.proofs.EdgeTargets.{leads_at}
use Rattle.lalrpop_dense.proofs.Rights.{leads_behind}
use Rattle.lalrpop_dense.proofs.check.tail_of.Goals as goal

pub returns-then-end : goal.returns-then-end
returns-then-end c = λ v from below.
    let ts = c.args.edges.now in
    let t = c.in-Some.field-0.now in
    let at : slice_get ts (length ts - 1) ≡ Some t = sym c.in-Some.ensures.value in
    leads_behind ts c.requires t c.args.other v (omega (arith, slice_get_within ts (length ts - 1) t at)) at (omega arith)

pub returns-else-end : goal.returns-else-end
returns-else-end c = λ v from below.
    let ts = c.args.edges.now in
    let t = c.in-Some.field-0.now in
    let at : slice_get ts (length ts - 1) ≡ Some t = sym c.in-Some.ensures.value in
    leads_at ts c.requires (length ts - 1) c.args.other v t at (omega arith, omega arith)
