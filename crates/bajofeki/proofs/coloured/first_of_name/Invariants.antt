use Rattle.std.proofs.Common.{◌≡◌, ℕ, ◌<◌, false, get_or, map, string_bytes, []}
use Rattle.std.specs.Str.{bytes_eq}
use Rattle.bajofeki.proofs.coloured.first_of_name.Given as goal

-- no rule so far has this name
abbrev pub invariant-loop-number : goal.invariant-loop-number
invariant-loop-number l = (k : ℕ) → k < l.number → bytes_eq l.name (get_or (map string_bytes l.names) k []) ≡ false
