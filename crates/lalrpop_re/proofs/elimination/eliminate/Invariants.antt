use Rattle.std.proofs.Common.{take}
use Rattle.lalrpop_re.specs.Internal.Walks.{IsWithoutAfter}
use Rattle.lalrpop_re.specs.Internal.Edges.{between, AreSound}
use Rattle.lalrpop_re.proofs.elimination.eliminate.Given as goal

abbrev pub invariant-loop-edge : goal.invariant-loop-edge
invariant-loop-edge l = record {
  words : IsWithoutAfter (between (take l.edge-index l.edges)) (between l.edges) l.state (between l.rest.items);
  sound : AreSound l.edges → AreSound l.rest.items;
}
