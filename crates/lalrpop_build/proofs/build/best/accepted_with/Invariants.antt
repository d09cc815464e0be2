use Rattle.std.proofs.Common.{◌≡◌, take, map}
use Rattle.lalrpop_build.specs.Internal.Best.{accepts_with}
use Rattle.lalrpop_build.proofs.build.best.accepted_with.Given as goal

abbrev pub invariant-loop-item : goal.invariant-loop-item
invariant-loop-item l = l.found.items ≡ accepts_with (map (λ p. p.0) l.precedences) (take l.item-index l.item-items) l.precedence
