use Rattle.std.proofs.Common.{◌<◌, length}
use Rattle.lalrpop_re.proofs.elimination.cheapest.Given as goal

abbrev pub invariant-loop-i : goal.invariant-loop-i
invariant-loop-i l = l.best < length l.left
