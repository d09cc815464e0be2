use Rattle.std.proofs.Common.{◌≡◌, ℕ, ◌<◌, false, [], get_or, map}
use Rattle.std.specs.Prelude.{string_bytes}
use Rattle.lexdfa_lib.specs.Options.{is_end}
use Rattle.lexdfa_lib.proofs.options.end_of.Given as goal

abbrev pub invariant-loop-i : goal.invariant-loop-i
invariant-loop-i l = (k : ℕ) → k < l.i → is_end (get_or (map string_bytes l.words) k []) ≡ false
