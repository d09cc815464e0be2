-- Bytes on which a row of a fused table leads back to itself.
use Rattle.std.specs.Prelude.{◌≡◌, ℕ, ◌/◌, ◌%◌, ◌<◌, ◌≤◌, ◌==◌, if◌then◌else◌, List, slice_index}
use Rattle.std.specs.Int.{w64, trailing_zeros, bit_at}
use Rattle.lalrpop_dense.specs.declared.self_loop.SelfLoop.{SelfLoop}

-- the byte is ASCII, and the entry of its low half has the bit of its high half
pub record IsIn (s : SelfLoop) (byte : ℕ) : Type 0 where
  pub ascii : byte < 128
  pub set : bit_at (slice_index s.set (byte % 16)) (byte / 16) ≡ 1

-- so are the bytes from one place to the other
abbrev pub AreIn : SelfLoop → List ℕ → ℕ → ℕ → Type 0
AreIn s bytes at to = (k : ℕ) → at ≤ k → k < to → IsIn s (slice_index bytes k)

-- the place of the lowest bit that is set, or 32
abbrev pub first_set : ℕ → ℕ
first_set mask = if mask == 0 then 32 else trailing_zeros w64 mask
