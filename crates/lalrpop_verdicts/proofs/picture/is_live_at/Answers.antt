use Rattle.lalrpop_verdicts.proofs.Turns.{live_read, live_past}
use Rattle.lalrpop_verdicts.proofs.picture.is_live_at.Goals as goal

pub returns-in-Some : goal.returns-in-Some
returns-in-Some c =
    let at = c.in-Some.ensures.lookup in
    live_read c.args.dfa.now c.states.result.now c.args.state c.in-Some.state.now c.kind.result.now c.states.ensures.states at.3.0 at.1 c.kind.ensures.kind c.is_live.result c.is_live.ensures

pub returns-in-None : goal.returns-in-None
returns-in-None c = live_past c.args.dfa.now c.states.result.now c.args.state c.states.ensures.states c.in-None.ensures.lookup.3
