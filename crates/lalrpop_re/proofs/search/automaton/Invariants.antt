use Rattle.std.specs.Str.{chars}
use Rattle.lalrpop_re.specs.Internal.Walks.{Reads}
use Rattle.lalrpop_re.specs.Internal.Edges.{between, AreSound}
use Rattle.lalrpop_re.proofs.Rows.{AutomatonBelow}
use Rattle.lalrpop_re.proofs.search.automaton.Given as goal

abbrev pub invariant-loop-state : goal.invariant-loop-state
invariant-loop-state l = record {
  words : Reads (AutomatonBelow (chars l.fn.start) l.end l.state) (between l.edges.items);
  sound : AreSound l.edges.items;
}
