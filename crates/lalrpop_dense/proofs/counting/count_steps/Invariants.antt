use Rattle.std.proofs.Common.{◌≡◌, ◌+◌}
use Rattle.lalrpop_dense.proofs.counting.count_steps.Given as goal

-- the steps so far
abbrev pub invariant-loop : goal.invariant-loop
invariant-loop l = record { counted : l.steps ≡ l.initial.steps + l.counter }
