use Rattle.std.proofs.Common.{◌≡◌, ◌≤◌}
use Rattle.lalrpop_re.specs.Internal.Reading.{all_operators}
use Rattle.lalrpop_re.specs.Internal.Views.{text, unread}
use Rattle.lalrpop_re.specs.Internal.Parts.{part}
use Rattle.lalrpop_re.proofs.parser.parse_operators.Given as goal

abbrev pub invariant-loop-cursor : goal.invariant-loop-cursor
invariant-loop-cursor l = record {
  value : all_operators l.parts l.levels_left l.cursor.flags (part l.piece (text l.cursor)) ≡ all_operators l.parts l.levels_left l.fn.cursor.flags (part l.fn.atom (text l.fn.cursor));
  flags : l.cursor.flags ≡ l.fn.cursor.flags;
  moves : unread l.cursor ≤ unread l.fn.cursor;
  deep : l.piece.depth ≤ l.levels_left;
}

abbrev pub decreases-loop-cursor : goal.decreases-loop-cursor
decreases-loop-cursor l = unread l.cursor
