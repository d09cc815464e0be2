use Rattle.std.proofs.Common.{take}
use Rattle.lalrpop_re.specs.Internal.Walks.{Gains}
use Rattle.lalrpop_re.specs.Internal.Edges.{between, Exits, IsSound, AreSound}
use Rattle.lalrpop_re.proofs.elimination.add_exits.Given as goal

abbrev pub invariant-loop-exit : goal.invariant-loop-exit
invariant-loop-exit l = record {
  words : Gains (between l.initial.rest.items) (Exits l.entry l.turns (between (take l.exit-index l.edges))) (between l.rest.items);
  sound : AreSound l.edges → IsSound l.entry → IsSound l.turns → AreSound l.initial.rest.items → AreSound l.rest.items;
}
