use Rattle.std.proofs.Common.{◌≡◌, length}
use Rattle.lalrpop_verdicts.specs.Internal.Classes.{AreColumns}
use Rattle.lalrpop_verdicts.proofs.classes.stretches.alike.Given as goal

abbrev pub invariant-loop-number : goal.invariant-loop-number
invariant-loop-number l = record {
  columns : AreColumns l.dfa l.number l.values l.firsts.items;
  room : length l.targets.items ≡ length l.values;
}
