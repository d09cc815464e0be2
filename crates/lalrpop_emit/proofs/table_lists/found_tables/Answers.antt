use Rattle.lalrpop_emit.specs.Internal.Lists.{list_numbers}
use Rattle.lalrpop_emit.proofs.ModeTables.{walkable}
use Rattle.lalrpop_emit.proofs.table_lists.found_tables.Goals as goal

pub ahead_of-requires : goal.ahead_of-requires
ahead_of-requires c = walkable (list_numbers c.in-Some.table) c.args.dense.now (rw c.in-Some.is at c.in_ok-table.ensures.right)
