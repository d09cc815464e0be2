use Rattle.std.proofs.Common.{◌-◌, length}
use Rattle.lalrpop_dfa.proofs.Marking.{marked_count}
use Rattle.lalrpop_dfa.proofs.Reaching.{IsGrowing}
use Rattle.lalrpop_dfa.proofs.reach.leading_states.Given as goal

abbrev pub invariant-loop-marks : goal.invariant-loop-marks
invariant-loop-marks l = IsGrowing l.dfa l.fn.goals.items l.marks.items

abbrev pub decreases-loop-marks : goal.decreases-loop-marks
decreases-loop-marks l = length l.dfa - marked_count l.marks.items
