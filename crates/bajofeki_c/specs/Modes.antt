-- cases: proofs/Cases/Modes.antt
-- The modes of a lexer by their names, and what a token of a rule does to the stack of them.
use Rattle.std.specs.Prelude.{ℕ, List, [], slice_get, Option, Some, None, Result, Ok, Err}
use Rattle.bajofeki_rules.specs.Stack.{actions_of}
use Rattle.bajofeki_rules.specs.declared.action.Action.{Action as RuleAction}
use Rattle.bajofeki_rules.specs.declared.action.Action.TheVariants.{Mode, Push, Pop}
use Rattle.bajofeki_c.specs.Rules.{or_none}
use Rattle.bajofeki_c.specs.declared.held.BuildError.{BuildError}
use Rattle.bajofeki_c.specs.declared.held.BuiltLexer.{BuiltLexer}
use Rattle.bajofeki_c.specs.declared.held.Held.{Held}
use Rattle.bajofeki_c.specs.declared.modes.Action.{Action}

-- ---- the names

abbrev pub mode_names_in : Result BuiltLexer BuildError → List (List ℕ)
mode_names_in (Ok l) = l.rules.mode_names
mode_names_in (Err e) = []

-- the name of the mode with this number
abbrev pub mode_name_of : Held → ℕ → List ℕ
mode_name_of h m = or_none (slice_get (mode_names_in h.made) m)

-- ---- the actions of a rule

abbrev pub action_told : Option RuleAction → Action
action_told (Some (Mode m)) = record { kind = 0; mode = m }
action_told (Some (Push m)) = record { kind = 1; mode = m }
action_told (Some Pop) = record { kind = 2; mode = 0 }
action_told None = record { kind = 3; mode = 0 }

abbrev pub actions_in : Result BuiltLexer BuildError → ℕ → List RuleAction
actions_in (Ok l) i = actions_of l.rules.actions i
actions_in (Err e) i = []

-- the action at this place among those of the rule with this number
abbrev pub action_at : Held → ℕ → ℕ → Action
action_at h i place = action_told (slice_get (actions_in h.made i) place)
