use Rattle.std.proofs.Common.{◌≡◌, ℕ, ◌<◌, Some}
use Rattle.std.specs.Prelude.{slice_get}
use Rattle.lalrpop_dfa.specs.Dfa.{Row}
use Rattle.lalrpop_dense.specs.Internal.Table.{IsRowOfKind, LeadsRight, row_of}
use Rattle.lalrpop_dense.proofs.check.is_table_of.Given as goal

-- the states below the number are right
abbrev pub invariant-loop-number : goal.invariant-loop-number
invariant-loop-number l = record {
  kinds : (p : ℕ) (r : Row) → p < l.number → slice_get l.dfa p ≡ Some r → IsRowOfKind l.layout l.cells (row_of l.layout p) r.kind;
  leads : (p : ℕ) → p < l.number → LeadsRight l.layout l.cells l.dfa p;
}
