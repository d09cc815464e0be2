use Rattle.std.proofs.Common.{rules}
use Rattle.lalrpop_build.proofs.build.block.Block.write_edge.Goals as goal

pub returns : goal.returns
returns c = search rules
