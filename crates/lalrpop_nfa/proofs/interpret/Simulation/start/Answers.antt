use Rattle.std.proofs.Common.{◌≡◌, ◌∙◌, ap, subst, [], ℕ}
use Rattle.lalrpop_hir.specs.States.{start_state}
use Rattle.lalrpop_nfa.specs.Internal.StateSets.{StateList, IsGrown}
use Rattle.lalrpop_nfa.proofs.StateSetLemmas.{closure_of_start}
use Rattle.lalrpop_nfa.proofs.interpret.Simulation.start.Goals as goal

pub returns-clause-states : goal.returns-clause-states
returns-clause-states c =
    let none : ℕ → StateList = λ n. record { states = []; room = n } in
    let first = c.insert.new.self in
    closure_of_start c.args.nfa.now.edges _ first c.close.new.self
    (subst (λ (s : StateList). IsGrown s first (λ q. q ≡ start_state)) (c.in_ok-states.ensures ∙ ap none c.len.ensures.value) c.in_ok-insert.ensures.grown)
    c.in_ok-close.ensures.states
