use Rattle.std.proofs.Common.{take}
use Rattle.std.specs.List.{Contains}
use Rattle.lalrpop_dfa.specs.Ascending.{Item}
use Rattle.lalrpop_build.specs.Internal.Subsets.{closed}
use Rattle.lalrpop_build.specs.Internal.Worklist.{IsInserted}
use Rattle.lalrpop_build.proofs.WorklistSteps.{IsClosing, left}
use Rattle.lalrpop_build.proofs.worklist.Worklist.follow_from.Given as goal

abbrev pub invariant-loop-first : goal.invariant-loop-first
invariant-loop-first g l = record {
  inserted : IsInserted (g.S.Seen.items l.initial.self.seen) l.initial.self.pending.items (take l.first-index l.given) (g.S.Seen.items l.self.seen) l.self.pending.items;
  room : (x : Item) → g.S.Seen.can_add l.initial.self.seen x → g.S.Seen.can_add l.self.seen x;
}

abbrev pub invariant-loop-item : goal.invariant-loop-item
invariant-loop-item g l = record {
  closing : IsClosing l.nfas l.given (g.S.Seen.items l.self.seen) l.self.pending.items;
  room : (x : Item) → Contains (closed l.nfas l.given) x → g.S.Seen.can_add l.self.seen x;
}

abbrev pub decreases-loop-item : goal.decreases-loop-item
decreases-loop-item g l = left l.nfas (g.S.Seen.items l.self.seen) l.self.pending.items
