use Rattle.lalrpop_emit.proofs.ClassOrder.{table_moved, rules_moved, storable_moved}
use Rattle.lalrpop_emit.proofs.class_order.in_class_order.Goals as goal

pub returns-then-is_renumbered-clause-right : goal.returns-then-is_renumbered-clause-right
returns-then-is_renumbered-clause-right c =
    table_moved _ _ _ _ (rw (c.deref-5.ensures.value, c.deref-6.ensures.value) at (c.is_renumbered.ensures c.if-is_renumbered.true))

pub returns-then-is_renumbered-clause-storable : goal.returns-then-is_renumbered-clause-storable
returns-then-is_renumbered-clause-storable c =
    storable_moved _ _ _ _ (rw (c.deref-5.ensures.value, c.deref-6.ensures.value) at (c.is_renumbered.ensures c.if-is_renumbered.true))

pub returns-then-is_renumbered-clause-rules : goal.returns-then-is_renumbered-clause-rules
returns-then-is_renumbered-clause-rules c =
    rules_moved _ _ _ _ (rw (c.deref-5.ensures.value, c.deref-6.ensures.value) at (c.is_renumbered.ensures c.if-is_renumbered.true))
