use Rattle.std.proofs.Common.{◌≡◌, ◌<◌, ℕ, [], get_or, string_bytes, map, false}
use Rattle.std.specs.Str.{bytes_eq}
use Rattle.lalrpop_emit.proofs.naming.place_of.Given as goal

-- the names before are others
abbrev pub invariant-loop-place : goal.invariant-loop-place
invariant-loop-place l = (k : ℕ) → k < l.place → bytes_eq l.name (get_or (map string_bytes l.names) k []) ≡ false
