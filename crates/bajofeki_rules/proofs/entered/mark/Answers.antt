use Rattle.bajofeki_rules.proofs.MarkedModes.{one_marked}
use Rattle.bajofeki_rules.proofs.entered.mark.Goals as goal

pub returns : goal.returns
returns c = one_marked c.args.marks.now c.args.mode c.if-mode-marks.false c.if-marks-mode.false
