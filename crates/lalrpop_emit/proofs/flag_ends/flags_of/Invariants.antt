use Rattle.std.proofs.Common.{◌≡◌, ◌<◌, ◌≤◌, ℕ, length, slice_index}
use Rattle.std.specs.Prelude.{◌↔◌}
use Rattle.lalrpop_emit.proofs.flag_ends.flags_of.Given as goal

-- the flags up to here are right
abbrev pub invariant-loop-k : goal.invariant-loop-k
invariant-loop-k l = record {
  long : length l.flags ≡ 64;
  flags : (i : ℕ) → i < l.k → slice_index l.flags i ≤ 1;
  are : (i : ℕ) → i < l.k → ((slice_index l.flags i ≡ 1) ↔ (l.least ≤ slice_index l.rows i));
}
