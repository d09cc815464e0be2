use Rattle.std.proofs.Common.{◌<◌, ◌≤◌, ℕ, slice_index}
use Rattle.lalrpop_emit.proofs.ahead_columns.is_ascii_run.Given as goal

abbrev pub invariant-loop-byte : goal.invariant-loop-byte
invariant-loop-byte l = (i : ℕ) → i < l.byte-index → slice_index l.run i ≤ l.all
