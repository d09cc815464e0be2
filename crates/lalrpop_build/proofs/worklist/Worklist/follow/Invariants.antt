use Rattle.std.proofs.Common.{◌≡◌, List, ◌++◌, map}
use Rattle.lalrpop_dfa.specs.Ascending.{Item}
use Rattle.lalrpop_build.specs.Internal.Worklist.{IsInserted, epsilon_targets}
use Rattle.lalrpop_build.proofs.worklist.Worklist.follow.Given as goal

abbrev pub invariant-loop-edge : goal.invariant-loop-edge
invariant-loop-edge g l = (done : List Item) × IsInserted (g.S.Seen.items l.fn.self.seen) l.fn.self.pending.items done (g.S.Seen.items l.self.seen) l.self.pending.items
    × (done ++ map (λ e. (l.fn.item.0, e.to)) l.edge-iterator ≡ epsilon_targets l.nfas l.fn.item) × ((x : Item) → g.S.Seen.can_add l.fn.self.seen x → g.S.Seen.can_add l.self.seen x)
