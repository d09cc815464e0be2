use Rattle.std.proofs.Common.{take}
use Rattle.lalrpop_re.proofs.SpanLaws.{HasCodes}
use Rattle.lalrpop_re.proofs.posix.class_of_ranges.Given as goal

abbrev pub invariant-loop-low : goal.invariant-loop-low
invariant-loop-low l = HasCodes (take l.low-index l.pairs) l.ranges.items
