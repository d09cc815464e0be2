use Rattle.std.proofs.Common.{◌≡◌, ℕ, ◌+◌, ◌<◌, get_or}
use Rattle.lalrpop_dense.specs.Internal.SelfLoops.{IsIn}
use Rattle.lalrpop_dense.specs.Internal.Table.{class_of, numbers_of}
use Rattle.lalrpop_dense.proofs.fused.leads_back.Given as goal

-- the row leads back on each byte below that is one of them
abbrev pub invariant-loop-byte : goal.invariant-loop-byte
invariant-loop-byte l = (byte : ℕ) → byte < l.byte → IsIn l.stay byte → get_or (numbers_of l.fused.cells) (l.stay.row + class_of l.layout byte) 0 ≡ l.stay.row
