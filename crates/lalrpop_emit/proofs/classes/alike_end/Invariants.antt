use Rattle.std.proofs.Common.{ℕ, ◌<◌, ◌≤◌, ◌-◌}
use Rattle.lalrpop_emit.specs.Internal.Classes.{IsMarked}
use Rattle.lalrpop_emit.proofs.classes.alike_end.Given as goal

-- no character so far is marked
abbrev pub invariant-unmarked : goal.invariant-unmarked
invariant-unmarked l = record {
  some : l.value < l.end;
  most : l.end ≤ 1114112;
  unmarked : (c : ℕ) → l.value < c → c < l.end → ¬ IsMarked l.marks c;
}

abbrev pub decreases-unmarked : goal.decreases-unmarked
decreases-unmarked l = 1114112 - l.end
