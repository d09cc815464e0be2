use Rattle.std.proofs.Common.{◌-◌}
use Rattle.lalrpop_emit.proofs.FlagBits.{AreBitsOfEights}
use Rattle.lalrpop_emit.proofs.flag_ends.bits_of.Given as goal

-- as many eights were read as `k` has counted
abbrev pub invariant-loop-k : goal.invariant-loop-k
invariant-loop-k l = AreBitsOfEights l.flags (l.k - 1) l.bits
