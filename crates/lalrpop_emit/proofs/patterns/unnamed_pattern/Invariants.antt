use Rattle.std.proofs.Common.{◌≡◌, ◌<◌, ℕ}
use Rattle.std.specs.Prelude.{slice_get, Some}
use Rattle.lalrpop_dfa.specs.Dfa.{Row}
use Rattle.lalrpop_dfa.specs.declared.Kind.TheVariants.{Accepts}
use Rattle.lalrpop_emit.proofs.patterns.unnamed_pattern.Given as goal

-- the states before accept patterns that are among the first ones
abbrev pub invariant-loop-number : goal.invariant-loop-number
invariant-loop-number l = (state pattern : ℕ) (row : Row) → state < l.number → slice_get l.dfa state ≡ Some row → row.kind ≡ Accepts pattern → pattern < l.count
