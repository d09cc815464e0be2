use Rattle.std.proofs.Common.{rules}
use Rattle.lalrpop_dense.proofs.Lanes.{no_high}
use Rattle.lalrpop_dense.proofs.mark.no_high_bit.Goals as goal

pub returns : goal.returns
returns c = λ is. no_high c.args.bytes.now c.args.at c.requires (search rules)
