-- cases: proofs/Cases/Look.antt
-- How far past its tokens a lexer reads, mode by mode.
use Rattle.std.specs.Prelude.{◌≡◌, ◌⊎◌, ℕ, ◌<◌, ◌≤◌, Option, Some, None, Result, Ok, Err}
use Rattle.lalrpop_hir.specs.Winners.{Matched}
use Rattle.lalrpop_dfa.specs.Lookahead.{IsLookahead}
use Rattle.lalrpop_rules.specs.Modes.{ModeRules, trees_in}
use Rattle.bajofeki_c.specs.declared.held.BuildError.{BuildError}
use Rattle.bajofeki_c.specs.declared.held.BuiltLexer.{BuiltLexer}
use Rattle.bajofeki_c.specs.declared.held.Held.{Held}
use Rattle.bajofeki_c.specs.declared.look.Look.{Look}

abbrev pub modes_in : Result BuiltLexer BuildError → ℕ
modes_in (Ok l) = l.rules.modes
modes_in (Err e) = 0

-- how many modes there are
abbrev pub mode_count : Held → ℕ
mode_count h = modes_in h.made

-- the greatest number of characters, or that there is none
abbrev pub look_told : Option ℕ → Look
look_told (Some n) = record { code = 0; count = n }
look_told None = record { code = 1; count = 0 }

abbrev pub no_look : Look
no_look = record { code = 9; count = 0 }

-- this is how many characters after a token of the mode can leave open whether a longer one comes
abbrev pub IsLook : ModeRules → ℕ → Look → Type 0
IsLook r mode look = (count : Option ℕ) × (IsLookahead (Matched (trees_in r mode)) count × (look ≡ look_told count))

abbrev pub IsLookIn : Result BuiltLexer BuildError → ℕ → Look → Type 0
IsLookIn (Ok l) mode look = ((mode < l.rules.modes) × IsLook l.rules mode look) ⊎ ((l.rules.modes ≤ mode) × (look ≡ no_look))
IsLookIn (Err e) mode look = look ≡ no_look

-- the answer for the mode: none if there is no lexer that has it
abbrev pub IsLookOf : Held → ℕ → Look → Type 0
IsLookOf h mode look = IsLookIn h.made mode look
