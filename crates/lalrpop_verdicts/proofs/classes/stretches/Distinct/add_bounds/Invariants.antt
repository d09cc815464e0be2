use Rattle.lalrpop_verdicts.specs.Internal.Classes.{AreListed, IsMore}
use Rattle.lalrpop_verdicts.proofs.StretchLaws.{AreBounded}
use Rattle.lalrpop_verdicts.proofs.classes.stretches.Distinct.add_bounds.Given as goal

abbrev pub invariant-loop-test : goal.invariant-loop-test
invariant-loop-test l = record {
  listed : AreListed l.self.known l.self.marks.items l.self.values.items;
  more : IsMore l.initial.self.values.items l.self.values.items;
  bounded : AreBounded l.edges l.test-index l.self.values.items;
}
