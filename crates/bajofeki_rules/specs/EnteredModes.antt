-- The modes that rules lead into.
use Rattle.std.specs.Prelude.{◌≡◌, ℕ, ◌<◌, ◌⊎◌, List, [], ◌∷◌, Some, slice_get, Contains}
use Rattle.bajofeki_rules.specs.declared.action.Action.{Action}
use Rattle.bajofeki_rules.specs.declared.action.Action.TheVariants.{Mode, Push, Pop}
use Rattle.bajofeki_rules.specs.Stack.{actions_of}

-- the rule with this index belongs to the mode. The list is the modes of each rule
abbrev pub Belongs : List (List ℕ) → ℕ → ℕ → Type 0
Belongs members m i = (own : List ℕ) × ((slice_get members i ≡ Some own) × Contains own m)

-- the action leads into the mode
abbrev pub LeadsInto : Action → ℕ → Type 0
LeadsInto (Mode n) m = n ≡ m
LeadsInto (Push n) m = n ≡ m
LeadsInto Pop m = ⊥

-- some action of the list does
abbrev pub OneLeadsInto : List Action → ℕ → Type 0
OneLeadsInto [] m = ⊥
OneLeadsInto (a ∷ acts) m = LeadsInto a m ⊎ OneLeadsInto acts m

-- the mode can be entered: it is the first; or some rule of a mode that is there and can be entered leads into it. The lists are the modes and the
-- actions of each rule
pub data CanBeEntered (members : List (List ℕ)) (actions : List (List Action)) (modes : ℕ) : ℕ → Type 0 where
  first_mode : CanBeEntered members actions modes 0
  by_rule : {m n : ℕ} (i : ℕ) → m < modes → CanBeEntered members actions modes m → Belongs members m i → OneLeadsInto (actions_of actions i) n
      → CanBeEntered members actions modes n
