use Rattle.std.proofs.Common.{◌≡◌, get_or, sym, ap, ◌∙◌}
use Rattle.lalrpop_dfa.specs.Dfa.{StoredState}
use Rattle.lalrpop_dfa.proofs.StoredRows.{rows_rejecting}
use Rattle.lalrpop_dfa.proofs.rows.Rows.reject.Goals as goal

pub returns : goal.returns
returns c =
    let edges = c.self.inside.edges.items in
    let states = c.self.inside.states.items in
    let s : StoredState = record {
      kind = c.behind-self.inside.kind;
      other = c.behind-self.inside.other_edge;
      items = c.behind-self.inside.item_set;
      first = c.behind-self.inside.first_edge;
      count = c.behind-self.inside.edge_count;
    } in
    let at : s ≡ get_or states c.index.result s =
    c.behind-self.view_is ∙ c.index_mut.ensures.value ∙ ap (λ x. get_or states c.index.result x) (sym c.behind-self.view_is) in
    rw (← c.self.view_is, ← c.index.ensures.value) (rows_rejecting edges states c.index.result s at)
