use Rattle.std.proofs.Common.{◌≡◌, length}
use Rattle.lalrpop_emit.specs.Internal.Lists.{ahead_numbers}
use Rattle.lalrpop_emit.proofs.AheadWalks.{AreWalked, AreWalkedTo}
use Rattle.lalrpop_emit.proofs.ahead_rows.walk_parts.Given as goal

abbrev pub invariant-loop-walk : goal.invariant-loop-walk
invariant-loop-walk l = record {
  six : length l.last ≡ 6;
  walked : AreWalkedTo (ahead_numbers l.ahead) l.columns l.rows l.part l.k l.last l.walk;
}

abbrev pub invariant-loop-k : goal.invariant-loop-k
invariant-loop-k l = record {
  six : length l.last ≡ 6;
  walked : AreWalked (ahead_numbers l.ahead) l.columns l.rows l.part l.k l.last;
}
