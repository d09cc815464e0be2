use Rattle.std.proofs.Common.{◌≡◌, ◌≤◌, ◌+◌, reverse, vec_len, vec_capacity, length, take}
use Rattle.bajofeki_rules.specs.Stack.{act_all}
use Rattle.lalrpop_rules.proofs.mode_stack.act_all_within.Given as goal

abbrev pub invariant-loop-action : goal.invariant-loop-action
invariant-loop-action l =
    (record { mode = l.top; below = reverse l.below.items } ≡ act_all (take l.action-index l.actions) (record { mode = l.fn.top; below = reverse l.fn.below.items }))
    × (vec_len l.below + length l.actions ≤ vec_capacity l.below + l.action-index)
