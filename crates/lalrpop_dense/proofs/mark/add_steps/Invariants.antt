use Rattle.std.proofs.Common.{◌≡◌, ◌+◌}
use Rattle.lalrpop_dense.proofs.mark.add_steps.Given as goal

-- each step so far is counted
abbrev pub invariant-loop-counted : goal.invariant-loop-counted
invariant-loop-counted l = l.steps ≡ l.initial.steps + l.counted
