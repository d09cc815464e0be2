use Rattle.std.proofs.Common.{◌≡◌, length, subst, arith}
use Rattle.lalrpop_verdicts.specs.Smallest.{IsLeastCount}
use Rattle.lalrpop_verdicts.proofs.StateCounts.{states_are_least}
use Rattle.lalrpop_verdicts.proofs.state_count.least_state_count.Goals as goal

pub returns : goal.returns
returns c =
    let d = c.args.dfa.now in
    let states = c.in_ok-states.states.items in
    let least = states_are_least d c.in_ok-classes.classes.items states c.in_ok-table.ensures.well_formed c.in_ok-classes.ensures.classes c.in_ok-states.ensures.met in
    let count : length states ≡ c.len.result = omega (arith, c.len.ensures, c.in_ok-states.states.ok.0) in
    record { least = subst (IsLeastCount d) count least }
