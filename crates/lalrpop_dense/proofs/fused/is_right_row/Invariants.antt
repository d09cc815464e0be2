use Rattle.std.proofs.Common.{ℕ, ◌<◌}
use Rattle.lalrpop_dense.specs.Internal.Fused.{Leads}
use Rattle.lalrpop_dense.proofs.fused.is_right_row.Given as goal

-- the classes below lead where they should
abbrev pub invariant-loop-class : goal.invariant-loop-class
invariant-loop-class l = (class : ℕ) → class < l.class → Leads l.fused l.layout l.cells l.row class
