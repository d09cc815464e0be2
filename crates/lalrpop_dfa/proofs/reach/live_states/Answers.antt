use Rattle.std.proofs.lemmas.Result.{IfOk-weaker}
use Rattle.lalrpop_dfa.proofs.Reaching.{live_of}
use Rattle.lalrpop_dfa.proofs.reach.live_states.Goals as goal

pub returns-clause-marks : goal.returns-clause-marks
returns-clause-marks c =
    let d = c.args.dfa.now in
    let goals = c.in_ok-accepting_states.field-0 in
    IfOk-weaker c.leading_states.result _ _ (λ marks lead. live_of d goals.items marks.items c.in_ok-accepting_states.ensures.marks lead) c.leading_states.ensures
