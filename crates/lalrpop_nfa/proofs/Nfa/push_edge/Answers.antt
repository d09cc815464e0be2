use Rattle.std.proofs.Common.{◌++◌, ◌∷◌, [], length, refl, ap, sym, ◌∙◌}
use Rattle.lalrpop_nfa.specs.Graph.{Graph}
use Rattle.lalrpop_nfa.proofs.PushLemmas.{AllContiguous-pushed, kinds-pushed, state_inside, state_here}
use Rattle.lalrpop_nfa.proofs.Nfa.push_edge.Goals as goal

pub invariant_of-self-2 : goal.invariant_of-self-2
invariant_of-self-2 g c = let o = g.L.EdgeLabel in let m = g.met.L.EdgeLabel in
    let i = c.self.inside in
    AllContiguous-pushed o.kind o.list o.with_list m.list_written m.other_lists_kept m.run_in m.run_out
    i.states.items i.edges c.index-place.result (record { from = c.args.from; label = c.args.label; to = c.args.to }) c.index_mut.result.now c.set_first.new.state c.len-edge_index.result
    (state_inside i.states.items c.index-place.result c.args.from c.args.self.now i.edges c.self.view_is c.index-place.ensures.value c.requires.is_state)
    (state_here i.states.items c.index-place.result c.args.from c.args.self.now i.edges c.self.view_is c.index-place.ensures.value c.requires.is_state c.index_mut.result.now c.index_mut.ensures.value)
    c.set_first.ensures
    (c.len-edge_index.ensures ∙ (c.vec_mut-list.result.now.ok.0 ∙ ap length c.vec_mut-list.ensures.value))
    (sym c.index-place.ensures.value)
    (rw (c.index-place.ensures.value, ap (λ (n : Graph). n.edges) c.self.view_is) c.requires.together) c.self.invariant c.push.new.self.items
    (c.in_ok-push.ensures.items ∙ ap (λ es. es ++ record { from = c.args.from; label = c.args.label; to = c.args.to } ∷ []) c.vec_mut-list.ensures.value)

pub returns-clause-pushed : goal.returns-clause-pushed
returns-clause-pushed g c =
    let i = c.self.inside in
    let kinds = kinds-pushed g.L.EdgeLabel.kind i.states.items c.index-place.result c.index_mut.result.now c.set_first.new.state _
    (state_here i.states.items c.index-place.result c.args.from c.args.self.now i.edges c.self.view_is c.index-place.ensures.value c.requires.is_state c.index_mut.result.now c.index_mut.ensures.value)
    c.set_first.ensures in
    rw (kinds, c.in_ok-push.ensures.items, c.vec_mut-list.ensures.value, ← c.self.view_is) refl
