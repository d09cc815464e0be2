-- Rows that are being written.
use Rattle.std.specs.Prelude.{ℕ, List}
use Rattle.lalrpop_hir.specs.Range.{Range}
use Rattle.lalrpop_dfa.specs.Dfa.{Row}

-- the finished states, and the test edges so far of the next one
pub record Written : Type 0 where
  pub rows : List Row
  pub tests : List (Range × ℕ)
