use Rattle.std.proofs.Common.{◌≡◌, take}
use Rattle.lalrpop_verdicts.specs.Internal.Beside.{shifted}
use Rattle.lalrpop_verdicts.proofs.side_by_side.write_shifted.Given as goal

abbrev pub invariant-loop-test : goal.invariant-loop-test
invariant-loop-test l = (l.rows.rows ≡ l.fn.rows.rows) × (l.rows.tests ≡ shifted (take l.test-index l.test-items))
