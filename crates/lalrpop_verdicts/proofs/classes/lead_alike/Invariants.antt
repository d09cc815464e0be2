use Rattle.std.proofs.Common.{◌≡◌, map, take, get_or}
use Rattle.lalrpop_verdicts.proofs.classes.lead_alike.Given as goal

abbrev pub invariant-loop-place : goal.invariant-loop-place
invariant-loop-place l = map (λ t. get_or l.classes t 0) (take l.place l.one) ≡ map (λ t. get_or l.classes t 0) (take l.place l.other)
