use Rattle.std.proofs.Common.{ℕ}
use Rattle.lalrpop_dfa.specs.Internal.Marks.{AreLeft}
use Rattle.lalrpop_dfa.proofs.Marking.{marked_count}
use Rattle.lalrpop_dfa.proofs.lookahead.ever_waiting.Given as goal

abbrev pub invariant-loop-marks : goal.invariant-loop-marks
invariant-loop-marks l = (n : ℕ) × AreLeft l.dfa n l.marks.items

abbrev pub decreases-loop-marks : goal.decreases-loop-marks
decreases-loop-marks l = marked_count l.marks.items
