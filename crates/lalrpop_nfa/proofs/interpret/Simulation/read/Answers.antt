use Rattle.std.proofs.Common.{◌∙◌, sym, ap, subst, length, arith}
use Rattle.lalrpop_nfa.specs.Internal.Reads.{Reads}
use Rattle.lalrpop_nfa.specs.Internal.StateSets.{StateList, Visited, IsGrown, IsClosure}
use Rattle.lalrpop_nfa.proofs.StateSetLemmas.{read_at, moving_start, moving_more, moving_end}
use Rattle.lalrpop_nfa.proofs.interpret.Simulation.read.Goals as goal

pub loop-state-init : goal.loop-state-init
loop-state-init c =
    let own = c.self.inside in
    rw (← c.self.view_is)
    (moving_start own.nfa.now.edges c.args.value own.states c.clear.new.self (ap (λ (s : StateList). s.room) c.clear.ensures ∙ c.self.invariant.1 ∙ sym c.self.invariant.0)
    (ap (λ (s : StateList). s.states) c.clear.ensures))

pub add_read-requires : goal.add_read-requires
add_read-requires c =
    let within = c.states-state-items.ensures.within c.state-item.result (c.loop-state.state-index, c.loop-state-test.true, sym c.state-item.is) in
    omega (arith, c.self.invariant.0)

pub loop-state-preserved : goal.loop-state-preserved
loop-state-preserved c =
    let given = c.args.self.states in
    let now = c.loop-state.next in
    let new = c.add_read.new.self in
    let q = c.state-item.result in
    let same = c.states-state-items.ensures.value ∙ ap (λ (v : Visited). v.states.states) c.self.view_is in
    moving_more c.args.self.graph.edges c.args.value given now new c.loop-state.state-index q c.loop-state.invariant (omega (arith, c.loop-state-test.true, ap length same))
    (read_at given.states c.states-state-items.result.now c.loop-state.state-index q same c.loop-state-test.true c.state-item.is)
    (subst (λ (v : Visited). IsGrown now new (Reads v.graph.edges q c.args.value)) c.self.view_is c.in_ok-add_read.ensures)

pub close-requires : goal.close-requires
close-requires c = record { room = c.loop-state.invariant.room ∙ sym (ap (λ (v : Visited). v.states.room) c.self.view_is) ∙ c.self.invariant.0 }

pub invariant_of-result : goal.invariant_of-result
invariant_of-result c = (
  c.in_ok-close.ensures.states.room ∙ c.loop-state.invariant.room ∙ sym (ap (λ (v : Visited). v.states.room) c.self.view_is) ∙ c.self.invariant.0,
  c.self.invariant.0,
)

pub returns-clause-states : goal.returns-clause-states
returns-clause-states c =
    let now = c.loop-state.next in
    let new = c.close.new.self in
    let same = c.states-state-items.ensures.value ∙ ap (λ (v : Visited). v.states.states) c.self.view_is in
    moving_end c.args.self.graph.edges c.args.value c.args.self.states now new c.loop-state.state-index c.loop-state.invariant (omega (arith, c.loop-state-test.false, ap length same))
    (subst (λ (v : Visited). IsClosure v.graph.edges now new) c.self.view_is c.in_ok-close.ensures.states)
