-- cases: proofs/Cases/Safe.antt
-- What a terminal can be sent.
use Rattle.std.specs.Prelude.{ℕ, Bool, not, ◌&&◌, ◌==◌, List}
use Rattle.std.specs.Str.{IsUtf8, NoCharPasses}
use Rattle.bajofeki_rules.specs.Quoted.{is_unseen}

-- a character that isn't seen, other than a line feed
abbrev pub can_steer : ℕ → Bool
can_steer c = is_unseen c && not (c == 10)

-- the bytes are text without such characters
pub record IsSafe (bytes : List ℕ) : Type 0 where
  pub text : IsUtf8 bytes
  pub seen : NoCharPasses can_steer bytes
