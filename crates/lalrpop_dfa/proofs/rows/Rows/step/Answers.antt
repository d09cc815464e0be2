use Rattle.std.proofs.Common.{sym, ◌∙◌, ◌≡◌, ap, subst}
use Rattle.lalrpop_dfa.specs.Dfa.{AreAscendingTests, edge_target}
use Rattle.lalrpop_dfa.proofs.EdgeTargets.{step_of, the_some, leads_found, leads_none, tests_of}
use Rattle.lalrpop_dfa.proofs.rows.Rows.step.Goals as goal

pub returns-in-Some-clause-leads : goal.returns-in-Some-clause-leads
returns-in-Some-clause-leads c =
    let ts = c.test_edges.result.now in
    let row = the_some _ _ c.test_edges.ensures in
    let up : AreAscendingTests ts = subst AreAscendingTests (sym row.1.1) (c.requires.well_formed.ascending c.args.state row.0 row.1.0) in
    let t = c.in-Some.ensures.found in
    sym (step_of c.args.self.now c.args.state c.args.value row.0 row.1.0 ∙ ap (λ us. edge_target us row.0.other c.args.value) (sym row.1.1)
    ∙ leads_found ts up row.0.other c.args.value t.0 t.1.0 t.1.1 ∙ t.1.2)

pub returns-in-Some-clause-within : goal.returns-in-Some-clause-within
returns-in-Some-clause-within c =
    let row = the_some _ _ c.test_edges.ensures in
    let t = c.in-Some.ensures.found in
    rw (← t.1.2) (c.requires.well_formed.tests_in c.args.state row.0 t.0 row.1.0 (rw row.1.1 at t.1.0))

pub returns-in-None-clause-leads : goal.returns-in-None-clause-leads
returns-in-None-clause-leads c =
    let ts = c.test_edges.result.now in
    let row = the_some _ _ c.state.ensures in
    let r = row.0 in
    let same : ts ≡ r.tests = tests_of c.args.self.now c.args.state r ts row.1.0 c.test_edges.ensures in
    c.other_edge.ensures.other ∙ row.1.1.other
    ∙ sym (step_of c.args.self.now c.args.state c.args.value r row.1.0 ∙ ap (λ us. edge_target us r.other c.args.value) (sym same) ∙ leads_none ts r.other c.args.value c.in-None.ensures.none)
