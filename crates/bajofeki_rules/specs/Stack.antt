-- cases: proofs/Cases/Stack.antt
-- The stack of modes, and what a token does to it.
use Rattle.std.specs.Prelude.{ℕ, List, [], ◌∷◌, Option, Some, None, slice_get}
use Rattle.std.specs.List.{fold}
use Rattle.bajofeki_rules.specs.declared.action.Action.{Action}
use Rattle.bajofeki_rules.specs.declared.action.Action.TheVariants.{Mode, Push, Pop}

-- the mode on top, in which the text is read, and the modes below it, the next one first: so a stack is never empty
pub record Stack : Type 0 where
  pub mode : ℕ
  pub below : List ℕ

-- a text begins in the first mode, with none below it
abbrev pub start : Stack
start = record { mode = 0; below = [] }

-- the mode on top is taken away; the last one stays
abbrev pub popped : ℕ → List ℕ → Stack
popped mode [] = record { mode = mode; below = [] }
popped mode (next ∷ below) = record { mode = next; below = below }

-- the stack after one action
abbrev pub act : Action → Stack → Stack
act (Mode m) s = record { mode = m; below = s.below }
act (Push m) s = record { mode = m; below = s.mode ∷ s.below }
act Pop s = popped s.mode s.below

-- the stack after actions, one after another
abbrev pub act_all : List Action → Stack → Stack
act_all acts s = fold (λ t a. act a t) s acts

-- no actions of a rule that isn't there
abbrev pub these_or_none : Option (List Action) → List Action
these_or_none None = []
these_or_none (Some acts) = acts

-- the actions of the rule with this index
abbrev pub actions_of : List (List Action) → ℕ → List Action
actions_of actions i = these_or_none (slice_get actions i)
