-- cases: proofs/Cases/LeftModes.antt
-- The modes that rules lead out of.
use Rattle.std.specs.Prelude.{◌≡◌, ◌≢◌, ℕ, ◌+◌, ◌⊎◌, List, Some, Contains, drop, slice_get}
use Rattle.bajofeki_rules.specs.declared.action.Action.{Action}
use Rattle.bajofeki_rules.specs.declared.action.Action.TheVariants.{Mode, Push, Pop}
use Rattle.lalrpop_rule_file.specs.declared.file_rule.FileRule.{FileRule}

-- where the mode is on top, the action takes it away: it pops it, or puts another mode in its place
abbrev pub Leaves : Action → ℕ → Type 0
Leaves (Mode n) m = n ≢ m
Leaves (Push n) m = ⊥
Leaves Pop m = Unit {0}

-- one of the actions does
abbrev pub OneLeaves : List Action → ℕ → Type 0
OneLeaves acts m = (k : ℕ) × ((a : Action) × ((slice_get acts k ≡ Some a) × Leaves a m))

-- one does after a pop, which comes back from another mode on top
abbrev pub LeavesAfterPop : List Action → ℕ → Type 0
LeavesAfterPop acts m = (k : ℕ) × ((slice_get acts k ≡ Some Pop) × OneLeaves (drop (k + 1) acts) m)

-- the rule leads out of the mode: as one of its rules, or after a pop
abbrev pub LeadsOut : FileRule → ℕ → Type 0
LeadsOut r m = (Contains r.modes.items m × OneLeaves r.actions.items m) ⊎ LeavesAfterPop r.actions.items m

-- one of the rules does
abbrev pub CanBeLeft : List FileRule → ℕ → Type 0
CanBeLeft rs m = (i : ℕ) × ((r : FileRule) × ((slice_get rs i ≡ Some r) × LeadsOut r m))
