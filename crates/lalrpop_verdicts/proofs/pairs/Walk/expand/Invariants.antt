use Rattle.std.proofs.Common.{◌≡◌, ◌-◌, true}
use Rattle.lalrpop_dfa.specs.Stored.{EndBefore}
use Rattle.lalrpop_verdicts.specs.Internal.Pairs.{is_character, number_of, AreMet, IsTurn}
use Rattle.lalrpop_verdicts.proofs.pairs.Walk.expand.Given as goal

abbrev pub invariant-loop-next : goal.invariant-loop-next
invariant-loop-next l = record {
  known : AreMet l.met.states.keys l.met.latest l.met.pairs.items;
  character : is_character l.value ≡ true;
  left_passed : EndBefore l.turn.left.tests.now l.passed.left l.value;
  right_passed : EndBefore l.turn.right.tests.now l.passed.right l.value;
  turn : IsTurn l.self.follow l.self.left.now l.self.right.now l.met.pairs.items (number_of l.fn.from) l.fn.left l.fn.right l.value;
}

abbrev pub decreases-loop-next : goal.decreases-loop-next
decreases-loop-next l = 0x110000 - l.value
