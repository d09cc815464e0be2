use Rattle.std.proofs.Common.{ℕ, ◌<◌, get_or}
use Rattle.lalrpop_dense.specs.Internal.Fused.{IsRightRow, LeadsBack}
use Rattle.lalrpop_dense.specs.declared.fused.FusedRow.{FusedRow}
use Rattle.lalrpop_dense.specs.declared.self_loop.SelfLoop.{SelfLoop}
use Rattle.lalrpop_dense.proofs.fused.is_fused_of.Given as goal

-- the rows that were looked at are right
abbrev pub invariant-loop-row : goal.invariant-loop-row
invariant-loop-row l = (k : ℕ) (r : FusedRow) → k < l.row-index → IsRightRow l.fused l.layout l.cells (get_or l.fused.rows.items k r)

-- the rows that were looked at stay
abbrev pub invariant-loop-stay : goal.invariant-loop-stay
invariant-loop-stay l = (k : ℕ) (s : SelfLoop) → k < l.stay-index → LeadsBack l.fused l.layout (get_or l.fused.stays.items k s)
