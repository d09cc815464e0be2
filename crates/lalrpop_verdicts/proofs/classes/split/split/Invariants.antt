use Rattle.std.proofs.Common.{◌≡◌, ◌≤◌, ℕ, get_or, length, take}
use Rattle.lalrpop_verdicts.proofs.SplitLaws.{AreMoved}
use Rattle.lalrpop_verdicts.proofs.classes.split.split.Given as goal

abbrev pub invariant-loop-place : goal.invariant-loop-place
invariant-loop-place l = record {
  same_length : length l.firsts ≡ length l.fn.firsts;
  parts : AreMoved l.fn.firsts l.keys l.place l.moved (take l.place l.firsts);
  behind : (p : ℕ) → l.place ≤ p → get_or l.firsts p 0 ≡ get_or l.fn.firsts p 0;
}
