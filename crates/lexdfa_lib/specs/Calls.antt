-- cases: proofs/Cases/Calls.antt
-- One call of a reader or a writer.
use Rattle.std.specs.Prelude.{ℕ, ◌+◌, Bool, true, false, ◌&&◌, ◌==◌, not, if◌then◌else◌, List, length, Result, Ok, Err}

-- a reader or a writer, whether a call of it has failed, and how many were made after that
pub record Watch (T : Type 0) : Type 0 where
  pub inner : T
  pub is_broken : Bool
  pub late : ℕ

-- a writer, and whether a call of it has found that its reader has gone away
pub record Piped (T : Type 0) : Type 0 where
  pub inner : T
  pub is_closed : Bool

-- the number of calls after one that failed, after one more call
abbrev pub late_after : Bool → ℕ → ℕ
late_after is_broken late = if is_broken then late + 1 else late

-- the call failed
abbrev pub read_failed : {E : Type 0} → Result ℕ E → Bool
read_failed (Ok n) = false
read_failed (Err e) = true

-- the call failed, or took no byte though there were some
abbrev pub write_failed : {E : Type 0} → List ℕ → Result ℕ E → Bool
write_failed bytes (Ok n) = (n == 0) && not (length bytes == 0)
write_failed bytes (Err e) = true
