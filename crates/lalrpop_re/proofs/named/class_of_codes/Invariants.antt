use Rattle.std.proofs.Common.{take}
use Rattle.lalrpop_re.proofs.SpanLaws.{HasCodes}
use Rattle.lalrpop_re.proofs.named.class_of_codes.Given as goal

abbrev pub invariant-loop-first : goal.invariant-loop-first
invariant-loop-first l = HasCodes (take l.first-index l.codes) l.ranges.items
