use Rattle.std.proofs.Common.{◌≡◌, ◌<◌, ℕ, List, string_bytes, map}
use Rattle.std.specs.Prelude.{slice_get, Some}
use Rattle.lalrpop_emit.specs.RustSource.{IsVariant}
use Rattle.lalrpop_emit.proofs.rust_file.first_bad_variant.Given as goal

abbrev pub invariant-loop-kind : goal.invariant-loop-kind
invariant-loop-kind l = (j : ℕ) (n : List ℕ) → j < l.kind → slice_get (map string_bytes l.names) j ≡ Some n → IsVariant n
