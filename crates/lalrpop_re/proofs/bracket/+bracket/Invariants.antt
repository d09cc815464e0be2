use Rattle.std.proofs.Common.{◌≡◌, ◌≤◌, ◌+◌, ◌*◌, List, option_to_list}
use Rattle.lalrpop_re.specs.CharacterSet.{Set, union_all, HasRuns}
use Rattle.lalrpop_re.specs.Bracket.{leaves}
use Rattle.lalrpop_re.specs.Internal.Reading.{whole_operand, all_operations, bracket}
use Rattle.lalrpop_re.specs.Internal.Views.{text, unread, HasMembers}
use Rattle.lalrpop_re.proofs.bracket.+bracket.Given as goal

-- each bracket takes one of the remaining levels
abbrev pub decreases-parse_operands : goal.decreases-parse_operands
decreases-parse_operands l = 8 * l.levels_left + 4

abbrev pub decreases-parse_operations : goal.decreases-parse_operations
decreases-parse_operations l = 8 * l.levels_left + 3

abbrev pub decreases-parse_operand : goal.decreases-parse_operand
decreases-parse_operand l = 8 * l.levels_left + 2

abbrev pub decreases-parse_item : goal.decreases-parse_item
decreases-parse_item l = 8 * l.levels_left + 1

abbrev pub decreases-parse_bracket : goal.decreases-parse_bracket
decreases-parse_bracket l = 8 * l.levels_left

abbrev pub decreases-parse_enclosed : goal.decreases-parse_enclosed
decreases-parse_enclosed l = 8 * l.levels_left + 5

abbrev pub invariant-parse_operations-loop-cursor : goal.invariant-parse_operations-loop-cursor
invariant-parse_operations-loop-cursor l = record {
  value : (s : Set) → HasRuns l.fn.left.class s
      → (now : Set) × HasRuns l.class now
      × (all_operations l.cursor.flags (bracket l.cursor.flags l.levels_left) (record { set = now; depth = l.depth; rest = text l.cursor })
      ≡ all_operations l.fn.cursor.flags (bracket l.fn.cursor.flags l.levels_left) (record { set = s; depth = l.fn.left.depth; rest = text l.fn.cursor }));
  flags : l.cursor.flags ≡ l.fn.cursor.flags;
  moves : unread l.cursor ≤ unread l.fn.cursor;
  deep : l.depth ≤ l.levels_left;
}

abbrev pub decreases-parse_operations-loop-cursor : goal.decreases-parse_operations-loop-cursor
decreases-parse_operations-loop-cursor l = unread l.cursor

abbrev pub invariant-parse_operand-loop-cursor : goal.invariant-parse_operand-loop-cursor
invariant-parse_operand-loop-cursor l = record {
  value : (sets : List Set) × HasMembers l.ranges.items (union_all sets)
      × (whole_operand l.cursor.flags (bracket l.cursor.flags l.levels_left) (record { sets = sets; depth = l.depth; rest = text l.cursor })
      ≡ whole_operand l.fn.cursor.flags (bracket l.fn.cursor.flags l.levels_left) (record { sets = leaves l.fn.cursor.flags (option_to_list l.fn.lead); depth = 0; rest = text l.fn.cursor }));
  flags : l.cursor.flags ≡ l.fn.cursor.flags;
  moves : unread l.cursor ≤ unread l.fn.cursor;
  deep : l.depth ≤ l.levels_left;
}

abbrev pub decreases-parse_operand-loop-cursor : goal.decreases-parse_operand-loop-cursor
decreases-parse_operand-loop-cursor l = unread l.cursor
