use Rattle.std.proofs.Common.{◌≡◌, ◌≤◌}
use Rattle.lalrpop_re.specs.Internal.Reading.{past_hyphens}
use Rattle.lalrpop_re.specs.Internal.Views.{text, unread}
use Rattle.lalrpop_re.proofs.bracket.pass_hyphens.Given as goal

abbrev pub invariant-loop-cursor : goal.invariant-loop-cursor
invariant-loop-cursor l = record {
  text : past_hyphens (text l.cursor) ≡ past_hyphens (text l.fn.cursor);
  flags : l.cursor.flags ≡ l.fn.cursor.flags;
  moves : unread l.cursor ≤ unread l.fn.cursor;
}

abbrev pub decreases-loop-cursor : goal.decreases-loop-cursor
decreases-loop-cursor l = unread l.cursor
