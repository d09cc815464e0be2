use Rattle.std.proofs.Common.{◌∙◌, ◌∷◌, [], ap}
use Rattle.lalrpop_dfa.proofs.StoredRows.{rows_kept}
use Rattle.lalrpop_dfa.proofs.rows.RowWriter.add_edge.Goals as goal

pub returns-clause-rows : goal.returns-clause-rows
returns-clause-rows c =
    rw c.in_ok-push.ensures.items
    (rows_kept c.self.inside.states.items c.self.inside.edges.items ((c.args.label, c.args.target) ∷ []) c.self.invariant.0 ∙ ap (λ w. w.rows) c.self.view_is)
