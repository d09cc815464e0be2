use Rattle.std.proofs.Common.{◌∙◌}
use Rattle.lalrpop_nfa.proofs.PushLemmas.{AllContiguous-fresh, edges_past}
use Rattle.lalrpop_nfa.proofs.Nfa.new_state.Goals as goal

pub invariant_of-self-2 : goal.invariant_of-self-2
invariant_of-self-2 c = rw c.in_ok-push.ensures.items (AllContiguous-fresh c.self.inside.states.items c.self.inside.edges c.args.kind c.self.invariant)

pub returns-clause-bare : goal.returns-clause-bare
returns-clause-bare c = edges_past c.self.inside.states.items c.self.inside.edges c.new.result (c.new.ensures.value ∙ (c.len-index.ensures ∙ c.self.inside.states.ok.0)) c.self.invariant
