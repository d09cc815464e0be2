use Rattle.std.proofs.Common.{ap, sym, subst, ◌∙◌}
use Rattle.lalrpop_nfa.specs.Walk.{leaves}
use Rattle.std.specs.List.{filter}
use Rattle.lalrpop_nfa.specs.Firsts.{index_of}
use Rattle.lalrpop_nfa.specs.Contiguous.{IsContiguous, AreContiguous}
use Rattle.lalrpop_nfa.specs.Graph.{Graph}
use Rattle.lalrpop_nfa.proofs.PushLemmas.{state_here}
use Rattle.lalrpop_nfa.proofs.WalkLemmas.{IsContiguous-elsewhere}
use Rattle.lalrpop_nfa.proofs.Nfa.edges.Goals as goal
use Rattle.lalrpop_nfa.proofs.Nfa.edges.Goals.{After-first}

run_here : (g : _) (c : After-first g) → IsContiguous c.args.from c.as_slice.result.now c.first.result.now
run_here g c = let o = g.L.EdgeLabel in let m = g.met.L.EdgeLabel in
    let i = c.self.inside in
    let here = state_here i.states.items c.index-place.result c.args.from c.args.self.now i.edges c.self.view_is c.index-place.ensures.value c.requires.is_state c.index.result.now c.index.ensures in
    let run = subst (λ s. AreContiguous o.kind i.edges s c.index-place.result) (sym here) (c.self.invariant o.kind c.index-place.result) in
    IsContiguous-elsewhere c.index-place.result c.args.from (o.list i.edges) c.as_slice.result.now (index_of o.kind c.index.result.now) c.first.result.now
    c.index-place.ensures.value (sym (c.as_slice.ensures.value ∙ c.vec.ensures.value)) (sym c.first.ensures.value) (m.run_in i.edges c.index.result.now c.index-place.result run)

pub invariant_of-result : goal.invariant_of-result
invariant_of-result g c = (run_here g (goal.at.invariant_of-result g c).After-first).at

pub returns : goal.returns
returns g c = record { edges = sym (run_here g (goal.at.returns g c).After-first).all ∙ ap (filter (leaves c.args.from)) (c.as_slice.ensures.value ∙ (c.vec.ensures.value ∙ ap (λ (n : Graph). g.L.EdgeLabel.list n.edges) c.self.view_is)) }
