use Rattle.std.proofs.Common.{◌≡◌, ◌<◌, ℕ, length, slice_index}
use Rattle.lalrpop_emit.specs.Internal.Running.{IsWordOf}
use Rattle.lalrpop_emit.proofs.ahead_driver.mark_ends.Given as goal

-- the words up to here are right
abbrev pub invariant-loop-word : goal.invariant-loop-word
invariant-loop-word l = record {
  same : length l.ends ≡ length l.fn.ends;
  are : (w : ℕ) → w < l.word → IsWordOf l.least l.rows w (slice_index l.ends w);
}
