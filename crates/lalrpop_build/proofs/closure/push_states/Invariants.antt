use Rattle.std.proofs.Common.{◌≡◌, ◌++◌, drop}
use Rattle.lalrpop_build.specs.Internal.Worklist.{marked_from, marked}
use Rattle.lalrpop_build.proofs.closure.push_states.Given as goal

abbrev pub invariant-loop-state : goal.invariant-loop-state
invariant-loop-state l = l.found.items ++ marked_from l.pattern l.state (drop l.state l.marks) ≡ l.fn.found.items ++ marked l.pattern l.marks
