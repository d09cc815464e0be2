use Rattle.std.proofs.Common.{ℕ, ◌+◌, ◌<◌, ◌↔◌, List, All, vec_len}
use Rattle.lalrpop_re.specs.Internal.Walks.{Walk}
use Rattle.lalrpop_re.specs.Internal.Edges.{between, AreSound}
use Rattle.lalrpop_re.proofs.Walks.{IsAmong}
use Rattle.lalrpop_re.proofs.elimination.tree_of.Given as goal

abbrev pub invariant-loop-left : goal.invariant-loop-left
invariant-loop-left l = record {
  words : (w : List ℕ) → Walk (between l.fn.edges.items) l.count (l.count + 1) w ↔ Walk (between l.edges.items) l.count (l.count + 1) w;
  among : IsAmong l.count l.left.items (between l.edges.items);
  below : All (λ q. q < l.count) l.left.items;
  sound : AreSound l.edges.items;
}

abbrev pub decreases-loop-left : goal.decreases-loop-left
decreases-loop-left l = vec_len l.left
