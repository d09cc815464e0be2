use Rattle.std.proofs.Common.{◌≡◌, ◌+◌}
use Rattle.uses_lexer.proofs.count_steps.count_values.Given as goal

abbrev pub invariant-loop-value : goal.invariant-loop-value
invariant-loop-value l = l.steps ≡ l.initial.steps + l._value-index
