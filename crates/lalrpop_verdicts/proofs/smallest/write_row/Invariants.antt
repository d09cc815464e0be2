use Rattle.std.proofs.Common.{◌≡◌, take}
use Rattle.lalrpop_verdicts.specs.Internal.ClassRows.{AreMet, AreMetInTurn, AreNumbered, LeadAlike, LeadsTo, targets_of}
use Rattle.lalrpop_verdicts.proofs.smallest.write_row.Given as goal

abbrev pub invariant-loop-test : goal.invariant-loop-test
invariant-loop-test l = record {
  classes : l.met.classes.items ≡ l.fn.met.classes.items;
  numbered : AreNumbered l.fn.met.classes.items l.met.numbers.items l.met.states.items;
  met : AreMet (LeadsTo l.dfa l.fn.state) l.fn.met.states.items l.met.states.items;
  rows : l.writer.rows ≡ l.fn.writer.rows;
  tests : LeadAlike l.fn.met.classes.items l.met.states.items (take l.test-index l.test-items) l.writer.tests;
  turn : AreMetInTurn l.fn.met.states.items (targets_of l.writer.tests) l.met.states.items;
}
