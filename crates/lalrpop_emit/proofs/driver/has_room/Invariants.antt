use Rattle.std.proofs.Common.{◌-◌, ◌≤◌, List, length}
use Rattle.bajofeki_rules.specs.declared.action.Action.{Action}
use Rattle.lalrpop_emit.specs.Internal.Walking.{AreActionsAt}
use Rattle.lalrpop_emit.proofs.Actions.{RoomLeft}
use Rattle.lalrpop_emit.proofs.driver.has_room.Given as goal

-- the actions before the place fit
abbrev pub invariant-actions : goal.invariant-actions
invariant-actions l = record {
  within : l.depth ≤ l.room;
  left : (actions : List Action) → AreActionsAt l.numbers.actions (length l.numbers.tables) l.first actions
      → RoomLeft l.numbers.actions (length l.numbers.tables) l.room l.fn.depth actions l.place l.depth;
}

abbrev pub decreases-actions : goal.decreases-actions
decreases-actions l = length l.numbers.actions - l.place
