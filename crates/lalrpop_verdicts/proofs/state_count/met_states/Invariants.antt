use Rattle.std.proofs.Common.{◌≡◌, ◌-◌, length}
use Rattle.lalrpop_verdicts.specs.Internal.ClassRows.{AreNumbered}
use Rattle.lalrpop_verdicts.specs.Internal.StateWalks.{IsStateWalk}
use Rattle.lalrpop_verdicts.proofs.state_count.met_states.Given as goal

abbrev pub invariant-loop-place : goal.invariant-loop-place
invariant-loop-place l = record {
  classes : l.met.classes.items ≡ l.fn.classes.items;
  numbered : AreNumbered l.fn.classes.items l.met.numbers.items l.met.states.items;
  walk : IsStateWalk l.dfa l.fn.classes.items l.met.states.items l.place;
}

abbrev pub decreases-loop-place : goal.decreases-loop-place
decreases-loop-place l = length l.dfa - l.place
