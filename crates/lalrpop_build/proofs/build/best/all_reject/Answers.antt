use Rattle.std.proofs.Common.{rules}
use Rattle.lalrpop_build.proofs.LiveItems.{dead_told}
use Rattle.lalrpop_build.proofs.build.best.all_reject.Goals as goal

pub returns : goal.returns
returns c = dead_told c.args.set.now c.live.result.now c.is_empty.result c.live.ensures.value (search rules) (search rules)
