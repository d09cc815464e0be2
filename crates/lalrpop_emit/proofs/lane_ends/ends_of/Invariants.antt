use Rattle.std.proofs.Common.{◌-◌}
use Rattle.lalrpop_emit.proofs.LaneEnds.{AreBitsOfSixteens}
use Rattle.lalrpop_emit.proofs.lane_ends.ends_of.Given as goal

-- as many sixteens were compared as `k` has counted
abbrev pub invariant-loop-k : goal.invariant-loop-k
invariant-loop-k l = AreBitsOfSixteens l.least l.rows (l.k - 1) l.bits
