use Rattle.lalrpop_verdicts.proofs.Marks.{marked_with}
use Rattle.lalrpop_verdicts.proofs.classes.stretches.set_mark.Goals as goal

pub returns : goal.returns
returns c = marked_with c.args.marks.now c.args.value c.requires.within
