use Rattle.std.proofs.lemmas.Result.{IfOk-weaker}
use Rattle.lalrpop_review.proofs.LeastStates.{least_states}
use Rattle.lalrpop_review.proofs.automaton.fewest_states.Goals as goal

pub returns : goal.returns
returns c =
    let found = c.least_state_count.result in
    record { least = IfOk-weaker found _ _ (λ n least ts ps recognizes. least_states ts ps c.args.dfa.now recognizes n least) c.least_state_count.ensures.least }
