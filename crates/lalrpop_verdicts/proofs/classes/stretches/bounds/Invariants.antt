use Rattle.lalrpop_verdicts.specs.Internal.Classes.{AreListed}
use Rattle.lalrpop_verdicts.proofs.StretchLaws.{HaveBounds}
use Rattle.lalrpop_verdicts.proofs.classes.stretches.bounds.Given as goal

abbrev pub invariant-loop-number : goal.invariant-loop-number
invariant-loop-number l = record {
  listed : AreListed l.bounds.known l.bounds.marks.items l.bounds.values.items;
  bounds : HaveBounds l.dfa l.number l.bounds.values.items;
}
