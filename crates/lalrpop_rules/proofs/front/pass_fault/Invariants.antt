use Rattle.std.proofs.Common.{◌≡◌, ◌-◌, ◌<◌, length}
use Rattle.lalrpop_rules.specs.Internal.CutToEnd.{IsPaid}
use Rattle.lalrpop_rules.specs.Internal.Finding.{memo_of, IsPassing}
use Rattle.lalrpop_rules.proofs.front.pass_fault.Given as goal

abbrev pub invariant-passing : goal.invariant-passing
invariant-passing l = record {
  passing : IsPassing l.text l.at l.matches;
  some : l.at < l.matches.at;
  same : l.matches.automaton ≡ l.fn.matches.automaton;
  paid : IsPaid l.fn.steps (memo_of l.fn.matches) l.steps (memo_of l.matches);
}

-- the bytes that are left
abbrev pub decreases-passing : goal.decreases-passing
decreases-passing l = length l.text - l.matches.at
