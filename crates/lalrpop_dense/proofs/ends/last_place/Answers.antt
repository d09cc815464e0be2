use Rattle.std.proofs.Common.{sym}
use Rattle.lalrpop_dense.proofs.Marking.{last_by, last_by_none}
use Rattle.lalrpop_dense.proofs.ends.last_place.Goals as goal

pub returns-in-Some : goal.returns-in-Some
returns-in-Some c = sym (last_by c.args.base c.args.marks.now c.in-Some.mark.now (sym c.in-Some.ensures.value))

pub returns-in-None : goal.returns-in-None
returns-in-None c = sym (last_by_none c.args.base c.args.marks.now (sym c.in-None.ensures.value))
