-- Bytes that are a character of ASCII that is seen.
use Rattle.std.specs.Prelude.{ℕ, ◌&&◌, Bool, nat_le}

abbrev pub is_seen_in_ascii : ℕ → Bool
is_seen_in_ascii b = nat_le 32 b && nat_le b 126
