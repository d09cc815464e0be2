use Rattle.std.proofs.Common.{◌≡◌, ◌<◌, length, map}
use Rattle.bajofeki_rules.specs.Internal.Marks.{Marked, OnlyEntered, unmarked}
use Rattle.bajofeki_rules.proofs.entered.entered_modes.Given as goal

abbrev pub invariant-loop : goal.invariant-loop
invariant-loop l = record {
  same_length : length l.marks.items ≡ l.modes;
  first : 0 < l.modes → Marked l.marks.items 0;
  only : OnlyEntered (map (λ r. r.modes.now) l.rules) (map (λ r. r.actions.now) l.rules) l.marks.items;
}

abbrev pub decreases-loop : goal.decreases-loop
decreases-loop l = unmarked l.marks.items
