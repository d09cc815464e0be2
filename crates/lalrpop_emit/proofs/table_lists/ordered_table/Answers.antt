use Rattle.std.proofs.Common.{sym, subst, arith}
use Rattle.lalrpop_dense.specs.DenseTable.{IsTableFor, table_numbers}
use Rattle.lalrpop_emit.proofs.Told.{small_by_table}
use Rattle.lalrpop_emit.proofs.table_lists.ordered_table.Goals as goal

pub returns-clause-right : goal.returns-clause-right
returns-clause-right c =
    c.in_ok-ordered.ensures.right c.args.dense.now (subst (λ t. IsTableFor t c.args.dense.now) (sym c.in_ok-lists.ensures.same) c.in-Some.ensures.right)

pub returns-clause-small : goal.returns-clause-small
returns-clause-small c = small_by_table c.args.dense.now (table_numbers c.in-Some.table) c.in-Some.ensures.right c.in-Some.ensures.alike (omega arith) (rw c.dfa.ensures.same at c.if-not-has_room.ensures.room)
