use Rattle.lalrpop_emit.specs.Internal.Lists.{AreSmall}
use Rattle.lalrpop_emit.proofs.ahead_table.cells_of.Given as goal

-- the cells so far
abbrev pub invariant-loop-standing : goal.invariant-loop-standing
invariant-loop-standing l = AreSmall l.cells.items

abbrev pub invariant-loop-column : goal.invariant-loop-column
invariant-loop-column l = AreSmall l.cells.items
