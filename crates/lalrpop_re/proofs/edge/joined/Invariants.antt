use Rattle.std.proofs.Common.{ℕ, ◌↔◌, List, take}
use Rattle.lalrpop_re.specs.Internal.Edges.{between, OptionWords, AreSound, IsSoundOption}
use Rattle.lalrpop_re.proofs.edge.joined.Given as goal

abbrev pub invariant-loop-edge : goal.invariant-loop-edge
invariant-loop-edge l = record {
  words : (w : List ℕ) → OptionWords l.whole w ↔ between (take l.edge-index l.edges) l.from l.to w;
  sound : AreSound l.edges → IsSoundOption l.whole;
}
