use Rattle.std.proofs.Common.{◌≡◌, ◌++◌, map}
use Rattle.lalrpop_build.specs.Internal.Subsets.{default_targets}
use Rattle.lalrpop_build.proofs.moves.push_default_targets.Given as goal

abbrev pub invariant-loop-edge : goal.invariant-loop-edge
invariant-loop-edge l = l.targets.items ++ map (λ e. (l.fn.item.0, e.to)) l.edge-iterator ≡ l.fn.targets.items ++ map (λ q. (l.fn.item.0, q)) (default_targets l.fn.nfa l.fn.item.1)
