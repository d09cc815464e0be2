use Rattle.std.proofs.Common.{◌≡◌, ◌<◌, length}
use Rattle.lalrpop_dfa.specs.Dfa.{run}
use Rattle.uses_lexer.proofs.run_in_parts.state_behind.Given as goal

-- the state after the characters so far
abbrev pub invariant-loop-c : goal.invariant-loop-c
invariant-loop-c l = record {
  behind : l.state ≡ run l.dfa l.fn.from l.yielded;
  within : l.state < length l.dfa;
}
