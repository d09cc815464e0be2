use Rattle.std.specs.List.{All}
use Rattle.lalrpop_emit.specs.Internal.AheadRows.{IsRowOf}
use Rattle.lalrpop_emit.specs.Internal.Lists.{ahead_numbers}
use Rattle.lalrpop_emit.proofs.AheadWalks.{AreJoined}
use Rattle.lalrpop_emit.proofs.ahead_rows.join.Given as goal

abbrev pub invariant-loop-walk : goal.invariant-loop-walk
invariant-loop-walk l = record {
  rows : All (IsRowOf (ahead_numbers l.ahead)) l.rows;
  joined : AreJoined (ahead_numbers l.ahead) l.columns l.rows l.part l.walk;
}
