use Rattle.lalrpop_emit.specs.Internal.Lists.{list_numbers}
use Rattle.lalrpop_emit.proofs.ClassOrder.{row_place}
use Rattle.lalrpop_emit.proofs.class_order.is_row_place.Goals as goal

pub returns : goal.returns
returns c = row_place (list_numbers c.args.table.now) c.args.place
