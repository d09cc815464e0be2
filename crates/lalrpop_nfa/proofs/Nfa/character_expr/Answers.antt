use Rattle.std.proofs.Common.{inl, ap, ◌∷◌, []}
use Rattle.lalrpop_nfa.specs.Graph.{Lists}
use Rattle.lalrpop_nfa.proofs.BuildLemmas.{Extends-one_of}
use Rattle.lalrpop_nfa.proofs.Nfa.character_expr.Goals as goal

pub push_edge-requires-clause-together : goal.push_edge-requires-clause-together
push_edge-requires-clause-together c = inl (ap (λ (e : Lists). e.tests) c.in_ok-state.ensures.bare)

pub push_edge-requires-2-clause-together : goal.push_edge-requires-2-clause-together
push_edge-requires-2-clause-together c = rw c.in_ok-push_edge.ensures.pushed (inl (ap (λ (e : Lists). e.others) c.in_ok-state.ensures.bare))

pub returns : goal.returns
returns c = let o = c.in_ok-state.ensures in
    Extends-one_of (record { start = c.args.c; end = c.args.c } ∷ []) c.args.target c.in_ok-state.state c.args.self.now c.new_state.new.self c.push_edge.new.self c.push_edge-2.new.self
    o.number o.added (rw c.char.ensures.value at c.in_ok-push_edge.ensures.pushed) c.in_ok-push_edge-2.ensures.pushed
