use Rattle.std.proofs.Common.{◌∙◌, sym, subst}
use Rattle.lalrpop_dfa.specs.Dfa.{AreAscendingTests}
use Rattle.lalrpop_dfa.proofs.EdgeTargets.{the_some, tests_of}
use Rattle.lalrpop_dfa.proofs.StepLists.{steps_by_edges}
use Rattle.lalrpop_dfa.proofs.rows.Rows.list_of.Goals as goal

pub list_by-requires : goal.list_by-requires
list_by-requires c =
    let row = the_some _ _ c.test_edges-edges.ensures in
    subst AreAscendingTests (sym row.1.1) (c.requires.well_formed.ascending c.args.state row.0 row.1.0)

pub returns : goal.returns
returns c =
    let row = the_some _ _ c.state.ensures in
    let tests = tests_of c.args.self.now c.args.state row.0 _ row.1.0 c.test_edges-edges.ensures in
    steps_by_edges c.args.self.now c.args.state row.0 _ _ c.list_by.result row.1.0 tests (c.other_edge.ensures.other ∙ row.1.1.other) c.list_by.ensures
