-- Bytes that need no care.
use Rattle.std.specs.Prelude.{◌≢◌, ℕ, ◌<◌, ◌≤◌, ◌==◌, if◌then◌else◌}
use Rattle.std.specs.Int.{w64, trailing_zeros}

-- a character of ASCII that is seen, and is neither a quote nor a backslash
pub record IsPlain (byte : ℕ) : Type 0 where
  pub low : 32 ≤ byte
  pub high : byte ≤ 126
  pub quote : byte ≢ 34
  pub backslash : byte ≢ 92

-- a character of ASCII other than a line feed
pub record IsInLine (byte : ℕ) : Type 0 where
  pub ascii : byte < 128
  pub feed : byte ≢ 10

-- the place of the lowest bit that is set, or 32
abbrev pub first_set : ℕ → ℕ
first_set mask = if mask == 0 then 32 else trailing_zeros w64 mask
