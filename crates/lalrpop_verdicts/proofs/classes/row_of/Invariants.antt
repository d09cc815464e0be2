use Rattle.std.proofs.Common.{◌≡◌, map, take, get_or}
use Rattle.lalrpop_verdicts.proofs.classes.row_of.Given as goal

abbrev pub invariant-loop-target : goal.invariant-loop-target
invariant-loop-target l = l.row.items ≡ map (λ t. get_or l.classes t 0) (take l.target-index l.targets)
