use Rattle.std.proofs.Common.{◌≡◌, ◌-◌, ◌≤◌, List, length}
use Rattle.bajofeki_rules.specs.declared.action.Action.{Action}
use Rattle.lalrpop_emit.specs.BytePieces.{Fits}
use Rattle.lalrpop_emit.specs.Internal.Driving.{stack_of}
use Rattle.lalrpop_emit.specs.Internal.Walking.{AreActionsAt}
use Rattle.lalrpop_emit.proofs.Actions.{ActsLeft}
use Rattle.lalrpop_emit.proofs.driver.act.Given as goal

-- the actions before the place are done
abbrev pub invariant-actions : goal.invariant-actions
invariant-actions l = record {
  within : l.state.depth ≤ length l.below;
  at : l.state.at ≡ l.fn.state.at;
  left : (actions : List Action) → AreActionsAt l.numbers.actions (length l.numbers.tables) l.first actions
      → Fits (length l.fn.below) actions (stack_of l.fn.state l.fn.below)
      → ActsLeft l.numbers.actions (length l.numbers.tables) (length l.fn.below) actions (stack_of l.fn.state l.fn.below) l.place (stack_of l.state l.below);
}

abbrev pub decreases-actions : goal.decreases-actions
decreases-actions l = length l.numbers.actions - l.place
