use Rattle.std.proofs.lemmas.Result.{IfOk-weaker}
use Rattle.lalrpop_dfa.specs.Internal.Marks.{IsAcceptingAs}
use Rattle.lalrpop_dfa.proofs.Marking.{accepting_within, by_accepts}
use Rattle.lalrpop_dfa.proofs.Reaching.{leading_to}
use Rattle.lalrpop_dfa.proofs.follow.states_toward.Goals as goal

pub returns : goal.returns
returns c =
    let d = c.args.dfa.now in
    let i = c.args.pattern in
    let goals = c.in_ok-states_of.field-0 in
    IfOk-weaker c.leading_states.result _ _
    (λ marks lead. leading_to d (IsAcceptingAs d i) (λ p a. accepting_within d p (by_accepts d i p a)) goals.items marks.items c.in_ok-states_of.ensures.marks lead)
    c.leading_states.ensures
