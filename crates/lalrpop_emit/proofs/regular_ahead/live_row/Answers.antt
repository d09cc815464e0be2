use Rattle.std.proofs.Common.{arith, ◌+◌}
use Rattle.std.proofs.Math.Nat.{le-mul_of_pos_right}
use Rattle.lalrpop_emit.proofs.regular_ahead.live_row.Goals as goal

pub overflow_add-result : goal.overflow_add-result
overflow_add-result c = record { fits = omega (arith, le-mul_of_pos_right (c.args.shape.dead + c.args.shape.live) c.requires.some, c.requires.few, c.requires.within) }
