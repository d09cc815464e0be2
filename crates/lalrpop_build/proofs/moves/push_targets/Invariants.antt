use Rattle.std.proofs.Common.{◌≡◌, ◌++◌, map, take}
use Rattle.lalrpop_build.proofs.moves.push_targets.Given as goal

abbrev pub invariant-loop-transition : goal.invariant-loop-transition
invariant-loop-transition l = l.targets.items ≡ l.fn.targets.items ++ map (λ e. (l.fn.item.0, e.to)) (take l.transition-index l.run)
