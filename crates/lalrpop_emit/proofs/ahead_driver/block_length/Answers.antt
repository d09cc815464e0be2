use Rattle.std.proofs.Common.{◌/◌, arith}
use Rattle.lalrpop_emit.proofs.ahead_driver.block_length.Goals as goal

pub returns-clause-parts : goal.returns-clause-parts
returns-clause-parts c = (c.min-2.result / 384, omega arith)
