use Rattle.std.proofs.Common.{ℕ, ◌/◌, ◌-◌}
use Rattle.lalrpop_emit.specs.Internal.Running.{HasNoEnd, HasRoom, IsAtPlace, IsSameBlock}
use Rattle.lalrpop_emit.proofs.ahead_driver.next_end.Given as goal

abbrev pub invariant-words : goal.invariant-words
invariant-words l = record {
  place : (least place : ℕ) → IsAtPlace least l.fn.run place → IsAtPlace least l.run place;
  none : HasNoEnd l.fn.run → HasNoEnd l.run;
  same : IsSameBlock l.fn.run l.run;
  room : HasRoom l.run;
}

abbrev pub decreases-words : goal.decreases-words
decreases-words l = l.run.length / 64 - l.run.word
