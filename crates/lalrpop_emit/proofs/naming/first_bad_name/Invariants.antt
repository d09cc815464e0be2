use Rattle.std.proofs.Common.{◌≡◌, ◌<◌, ℕ, List, string_bytes, map}
use Rattle.std.specs.Prelude.{slice_get, Some}
use Rattle.lalrpop_emit.specs.Names.{IsName}
use Rattle.lalrpop_emit.proofs.naming.first_bad_name.Given as goal

abbrev pub invariant-loop-rule : goal.invariant-loop-rule
invariant-loop-rule l = (j : ℕ) (n : List ℕ) → j < l.rule → slice_get (map string_bytes l.names) j ≡ Some n → IsName n
