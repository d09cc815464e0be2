use Rattle.std.proofs.Common.{◌≡◌, ◌-◌, [], length}
use Rattle.lalrpop_verdicts.specs.Internal.ClassRows.{AreNumbered, IsWalk}
use Rattle.lalrpop_verdicts.proofs.smallest.class_rows.Given as goal

abbrev pub invariant-loop-alloc : goal.invariant-loop-alloc
invariant-loop-alloc l = record {
  classes : l.met.classes.items ≡ l.fn.classes.items;
  numbered : AreNumbered l.fn.classes.items l.met.numbers.items l.met.states.items;
  walk : IsWalk l.dfa l.fn.classes.items l.met.states.items l.writer.rows;
  empty : l.writer.tests ≡ [];
}

abbrev pub decreases-loop-alloc : goal.decreases-loop-alloc
decreases-loop-alloc l = length l.dfa - length l.writer.rows
