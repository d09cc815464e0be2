use Rattle.std.proofs.Common.{take, map}
use Rattle.lalrpop_build.specs.Internal.Best.{IsBest, accepts}
use Rattle.lalrpop_build.proofs.build.best.best_of.Given as goal

abbrev pub invariant-loop-item : goal.invariant-loop-item
invariant-loop-item l = IsBest (map (λ p. p.0) l.precedences) (accepts (take l.item-index l.item-items)) l.best
