use Rattle.std.proofs.Common.{take}
use Rattle.lalrpop_re.proofs.FoldLaws.{HasTaken}
use Rattle.lalrpop_re.proofs.folding.push_partners.Given as goal

abbrev pub invariant-loop-pair : goal.invariant-loop-pair
invariant-loop-pair l = HasTaken l.initial.ranges.items (take l.pair-index l.pair-items) l.ranges.items
