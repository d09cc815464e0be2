use Rattle.std.proofs.Common.{take}
use Rattle.lalrpop_re.proofs.FoldLaws.{HasFolded}
use Rattle.lalrpop_re.proofs.folding.fold.Given as goal

abbrev pub invariant-loop-range : goal.invariant-loop-range
invariant-loop-range l = HasFolded l.class (take l.range-index l.range-items) l.ranges.items
