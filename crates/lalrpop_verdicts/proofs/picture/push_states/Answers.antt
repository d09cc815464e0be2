use Rattle.std.proofs.Common.{map, string_bytes}
use Rattle.lalrpop_verdicts.proofs.Turns.{states_turn}
use Rattle.lalrpop_verdicts.proofs.picture.push_states.Goals as goal

pub loop-number-preserved : goal.loop-number-preserved
loop-number-preserved c =
    let l = c.loop-number in
    let states = c.states-state-items in
    states_turn c.args.dfa.now states.result.now l.number c.state-item.result c.kind.result.now states.ensures.states c.loop-number-test.true c.state-item.is c.kind.ensures.kind
    (map string_bytes c.args.names.now) (string_bytes l.text) (string_bytes c.push_state.new.text) _ c.in_ok-push_state.ensures l.invariant
