use Rattle.std.proofs.Common.{◌≡◌, ◌++◌, map, take}
use Rattle.lalrpop_emit.specs.NumberedRules.{action_number}
use Rattle.lalrpop_emit.specs.Internal.Lists.{AreSmall}
use Rattle.lalrpop_emit.proofs.action_lists.push_actions.Given as goal

-- the actions so far
abbrev pub invariant-loop-action : goal.invariant-loop-action
invariant-loop-action l = record {
  numbers : l.numbers.items ≡ l.initial.numbers.items ++ map action_number (take l.action-index l.actions);
  small : AreSmall l.numbers.items;
}
