-- The bytes with which characters begin.
use Rattle.std.specs.Prelude.{ℕ, Bool, true, false, if◌then◌else◌}
use Rattle.std.specs.Int.{is_in_range}

-- a character begins with the byte: it isn't one of the 64 that only follow another
abbrev pub is_start : ℕ → Bool
is_start b = if is_in_range 128 191 b then false else true
