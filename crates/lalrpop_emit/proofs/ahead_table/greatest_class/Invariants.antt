use Rattle.std.proofs.Common.{◌+◌, ◌*◌}
use Rattle.lalrpop_emit.specs.Internal.Lists.{list_numbers}
use Rattle.lalrpop_emit.proofs.AheadTables.{AreClassesBelow}
use Rattle.lalrpop_emit.proofs.ahead_table.greatest_class.Given as goal

-- that of the pages so far
abbrev pub invariant-loop-page : goal.invariant-loop-page
invariant-loop-page l = AreClassesBelow (list_numbers l.table) (l.greatest + 1) (l.page * 128)
