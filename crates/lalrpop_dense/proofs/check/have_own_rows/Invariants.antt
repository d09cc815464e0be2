use Rattle.std.proofs.Common.{◌≡◌, ℕ, ◌<◌, get_or, length, true}
use Rattle.std.specs.Prelude.{Some, slice_get}
use Rattle.lalrpop_dense.proofs.check.have_own_rows.Given as goal

-- the rows so far differ, and are marked
abbrev pub invariant-loop-row : goal.invariant-loop-row
invariant-loop-row l = record {
  all : length l.taken.items ≡ l.len;
  marked : (p : ℕ) → p < l.row-index → slice_get l.taken.items (get_or l.rows p 0) ≡ Some true;
  own : (p q : ℕ) → p < l.row-index → q < l.row-index → get_or l.rows p 0 ≡ get_or l.rows q 0 → p ≡ q;
}
