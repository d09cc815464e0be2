-- What two runs count on one counter.
use Rattle.std.proofs.Common.{ℕ, ◌+◌, ◌≤◌, arith}
use Rattle.std.specs.Prelude.{Option, Some, None, IfSome}

-- what was counted before
pub counted_on : {A : Type 0} (size : A → ℕ) (found : Option A) (before first middle after n : ℕ) → middle ≤ before + first
    → IfSome found (λ m. after ≤ middle + size m + n + 1) → IfSome found (λ m. after ≤ before + first + size m + n + 1)
counted_on size None before first middle after n few more = tt
counted_on size (Some m) before first middle after n few more = omega arith

-- what the second run reads is counted on top of what the first one did
pub read_on : {A : Type 0} (size : A → ℕ) (found : Option A) (before middle after : ℕ) → before ≤ middle
    → IfSome found (λ m. middle + size m ≤ after) → IfSome found (λ m. before + size m ≤ after)
read_on size None before middle after rises read = tt
read_on size (Some m) before middle after rises read = omega arith
