use Rattle.std.proofs.Common.{◌≡◌, ◌++◌}
use Rattle.lalrpop_build.proofs.closure.follow_pattern.Given as goal

abbrev pub invariant-loop-item : goal.invariant-loop-item
invariant-loop-item l = l.found.items ≡ l.fn.found.items ++ l.yielded
