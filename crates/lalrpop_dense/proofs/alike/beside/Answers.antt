use Rattle.std.proofs.Common.{◌≡◌, ℕ, ◌∙◌, ap, sym, arith}
use Rattle.lalrpop_dfa.specs.Dfa.{step, edge_target}
use Rattle.lalrpop_dense.proofs.Alikes.{lead_alike}
use Rattle.lalrpop_dense.proofs.Rights.{row_leads}
use Rattle.lalrpop_dense.proofs.alike.beside.Goals as goal

pub returns : goal.returns
returns c = λ v from.
    let d = c.args.dfa.now in
    let left = c.test_edges-left.result.now in
    let right = c.test_edges-right.result.now in
    let others : c.other_edge.result ≡ c.other_edge-2.result = omega arith in
    row_leads d c.args.index left c.other_edge.result _ c.test_edges-left.ensures.tests c.state.ensures.at c.other_edge.ensures.other v
    ∙ lead_alike left right c.shared_at_end-shared.result c.other_edge.result c.max-from.result v c.shared_at_end-shared.ensures
    (λ k t l e. omega (arith, c.in_ok-end_of.ensures k t l e))
    (λ k t l e. omega (arith, c.in_ok-end_of-2.ensures k t l e))
    from
    ∙ ap (λ (o : ℕ). edge_target right o v) others
    ∙ sym (row_leads d c.args.earlier right c.other_edge-2.result _ c.test_edges-right.ensures.tests c.state-2.ensures.at c.other_edge-2.ensures.other v)
    ∙ ap (λ (q : ℕ). step d q v) (sym c.index-3.ensures.value)
