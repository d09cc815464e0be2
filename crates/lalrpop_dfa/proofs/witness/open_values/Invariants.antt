use Rattle.lalrpop_dfa.proofs.Walks.{IsFollowing}
use Rattle.lalrpop_dfa.proofs.witness.open_values.Given as goal

abbrev pub invariant-loop-left : goal.invariant-loop-left
invariant-loop-left l = IsFollowing l.dfa l.count l.fn.goal l.values.items l.state l.left

abbrev pub decreases-loop-left : goal.decreases-loop-left
decreases-loop-left l = l.left
