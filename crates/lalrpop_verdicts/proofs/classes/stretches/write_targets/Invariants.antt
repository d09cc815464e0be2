use Rattle.std.proofs.Common.{◌≡◌, ◌≤◌, ◌<◌, ℕ, map, take, length, get_or}
use Rattle.lalrpop_dfa.specs.Dfa.{step}
use Rattle.lalrpop_dfa.specs.Stored.{EndBefore}
use Rattle.lalrpop_verdicts.proofs.classes.stretches.write_targets.Given as goal

abbrev pub invariant-loop-index : goal.invariant-loop-index
invariant-loop-index l = record {
  same_length : length l.targets ≡ length l.values;
  written : take l.index l.targets ≡ map (step l.dfa l.fn.state) (take l.index l.values);
  passed : (j : ℕ) → l.index ≤ j → j < length l.values → EndBefore l.edges l.place (get_or l.values j 0);
}
