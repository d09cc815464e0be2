use Rattle.std.proofs.Common.{◌≡◌, ◌≤◌, ◌+◌, ◌*◌}
use Rattle.lalrpop_re.specs.Internal.Reading.{whole_row, all_branches, begin, inside}
use Rattle.lalrpop_re.specs.Internal.Views.{text, unread}
use Rattle.lalrpop_re.specs.Internal.Parts.{line}
use Rattle.lalrpop_re.proofs.parser.+parser.Given as goal

-- each group takes one of the remaining levels
abbrev pub decreases-parse_expression : goal.decreases-parse_expression
decreases-parse_expression l = 8 * l.levels_left + 5

abbrev pub decreases-parse_branches : goal.decreases-parse_branches
decreases-parse_branches l = 8 * l.levels_left + 4

abbrev pub decreases-parse_row : goal.decreases-parse_row
decreases-parse_row l = 8 * l.levels_left + 3

abbrev pub decreases-parse_step : goal.decreases-parse_step
decreases-parse_step l = 8 * l.levels_left + 2

abbrev pub decreases-parse_parenthesis : goal.decreases-parse_parenthesis
decreases-parse_parenthesis l = 8 * l.levels_left + 1

abbrev pub decreases-parse_enclosed : goal.decreases-parse_enclosed
decreases-parse_enclosed l = 8 * l.levels_left

abbrev pub invariant-parse_row-loop-cursor : goal.invariant-parse_row-loop-cursor
invariant-parse_row-loop-cursor l = record {
  value : whole_row l.parts l.levels_left (inside l.parts l.levels_left) (line l.row l.cursor) ≡ whole_row l.parts l.levels_left (inside l.parts l.levels_left) (begin l.fn.cursor.flags (text l.fn.cursor));
  moves : unread l.cursor ≤ unread l.fn.cursor;
  deep : l.row.depth ≤ l.levels_left;
}

abbrev pub decreases-parse_row-loop-cursor : goal.decreases-parse_row-loop-cursor
decreases-parse_row-loop-cursor l = unread l.cursor

abbrev pub invariant-parse_branches-loop-branches : goal.invariant-parse_branches-loop-branches
invariant-parse_branches-loop-branches l = record {
  value : all_branches l.parts l.levels_left (inside l.parts l.levels_left) (line l.branches l.cursor) ≡ all_branches l.parts l.levels_left (inside l.parts l.levels_left) (begin l.fn.cursor.flags (text l.fn.cursor));
  moves : unread l.cursor ≤ unread l.fn.cursor;
  deep : l.branches.depth ≤ l.levels_left;
}

abbrev pub decreases-parse_branches-loop-branches : goal.decreases-parse_branches-loop-branches
decreases-parse_branches-loop-branches l = unread l.cursor
