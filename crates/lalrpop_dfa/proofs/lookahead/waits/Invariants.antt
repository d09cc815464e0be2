use Rattle.std.proofs.Common.{◌-◌, ◌*◌, length}
use Rattle.lalrpop_dfa.specs.Internal.Waits.{AreWaits}
use Rattle.lalrpop_dfa.proofs.Totals.{total}
use Rattle.lalrpop_dfa.proofs.lookahead.waits.Given as goal

abbrev pub invariant-loop-numbers : goal.invariant-loop-numbers
invariant-loop-numbers l = AreWaits l.dfa l.ever l.numbers.items

abbrev pub decreases-loop-numbers : goal.decreases-loop-numbers
decreases-loop-numbers l = length l.dfa * length l.dfa - total l.numbers.items
