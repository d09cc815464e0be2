use Rattle.std.proofs.Common.{take}
use Rattle.lalrpop_review.specs.Internal.Idle.{AreOfOtherKinds}
use Rattle.lalrpop_review.proofs.idle_rules.are_of_other_kinds.Given as goal

abbrev pub invariant-loop-winner : goal.invariant-loop-winner
invariant-loop-winner l = AreOfOtherKinds l.kinds l.index (take l.winner-index l.winners)
