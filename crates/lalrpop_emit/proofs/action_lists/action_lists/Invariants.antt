use Rattle.std.proofs.Common.{◌≡◌, ◌<◌, ◌^◌, length}
use Rattle.std.specs.List.{All}
use Rattle.lalrpop_emit.specs.NumberedRules.{action_numbers, first_places}
use Rattle.lalrpop_emit.specs.Internal.Lists.{AreSmall, LeadBelow}
use Rattle.lalrpop_emit.proofs.ActionNumbers.{first_rules}
use Rattle.lalrpop_emit.proofs.action_lists.action_lists.Given as goal

-- the numbers of the rules so far
abbrev pub invariant-loop-rule : goal.invariant-loop-rule
invariant-loop-rule l = record {
  first : l.first_places.items ≡ first_places 0 (first_rules l.rules l.rule);
  numbers : l.numbers.items ≡ action_numbers (first_rules l.rules l.rule);
  small_first : AreSmall l.first_places.items;
  small : AreSmall l.numbers.items;
  few : length l.numbers.items < 2 ^ 32;
  below : All (LeadBelow l.rules.modes) (first_rules l.rules l.rule);
}
