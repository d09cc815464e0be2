use Rattle.std.proofs.Common.{◌≡◌, length, take}
use Rattle.lalrpop_emit.proofs.ahead_columns.ascii_columns.Given as goal

-- as many columns are the bytes as `k` has counted
abbrev pub invariant-loop-k : goal.invariant-loop-k
invariant-loop-k l = record {
  long : length l.columns ≡ length l.bytes;
  same : take l.k l.columns ≡ take l.k l.bytes;
}
