use Rattle.std.proofs.Common.{◌+◌, ◌*◌, ◌-◌, length}
use Rattle.lalrpop_verdicts.specs.Internal.Pairs.{AreMet, IsTaken}
use Rattle.lalrpop_verdicts.proofs.pairs.pairs.Given as goal

abbrev pub invariant-loop-number : goal.invariant-loop-number
invariant-loop-number l = record {
  known : AreMet l.met.states.keys l.met.latest l.met.pairs.items;
  taken : IsTaken l.fn.follow l.left l.right l.met.pairs.items (l.number + 1) 0;
}

abbrev pub decreases-loop-number : goal.decreases-loop-number
decreases-loop-number l = length l.right * length l.left - l.number
