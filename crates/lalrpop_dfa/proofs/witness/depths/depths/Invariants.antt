use Rattle.lalrpop_dfa.specs.Internal.Ranks.{AreDeep}
use Rattle.lalrpop_dfa.proofs.Totals.{total}
use Rattle.lalrpop_dfa.proofs.witness.depths.depths.Given as goal

abbrev pub invariant-loop-depths : goal.invariant-loop-depths
invariant-loop-depths l = AreDeep l.dfa l.most l.depths.items

abbrev pub decreases-loop-depths : goal.decreases-loop-depths
decreases-loop-depths l = total l.depths.items
