-- cases: proofs/Cases/EmitErrors.antt
-- Which error comes when.
use Rattle.std.specs.Prelude.{◌≡◌, ◌≢◌, ℕ, ◌+◌, ◌*◌, ◌^◌, ◌<◌, ◌≤◌, ◌⊎◌, List, [], length, Some, slice_get, slice_index}
use Rattle.std.specs.List.{All}
use Rattle.lalrpop_lexer.specs.Dfa.{Row, step}
use Rattle.lalrpop_dfa.specs.declared.Kind.TheVariants.{Accepts}
use Rattle.lalrpop_rules.specs.Modes.{ModeRules}
use Rattle.lalrpop_emit.specs.Names.{IsName, IsIdentifier}
use Rattle.lalrpop_emit.specs.NumberedRules.{action_numbers, actions_of_rules}
use Rattle.lalrpop_emit.specs.declared.error.EmitError.{EmitError}
use Rattle.lalrpop_emit.specs.declared.error.EmitError.TheVariants.{NoRules, BadName, SkipCount, NoName, TooManyRules, TooManyModes, TooManyActions, BadVariant, BadPrefix, NoTable, OutOfMemory}

-- the name of rule i is the first that can't be part of an identifier
pub record IsFirstBadName (names : List (List ℕ)) (i : ℕ) : Type 0 where
  pub name : List ℕ
  pub at : slice_get names i ≡ Some name
  pub bad : ¬ IsName name
  pub before : (j : ℕ) (n : List ℕ) → j < i → slice_get names j ≡ Some n → IsName n

-- some state accepts the pattern
pub record IsAccepted (d : List Row) (pattern : ℕ) : Type 0 where
  pub state : ℕ
  pub row : Row
  pub at : slice_get d state ≡ Some row
  pub accepts : row.kind ≡ Accepts pattern

-- the automaton of some mode accepts the pattern, and there are fewer names
pub record IsUnnamed (r : ModeRules) (pattern : ℕ) : Type 0 where
  pub past : length r.names ≤ pattern
  pub mode : ℕ
  pub there : mode < r.modes
  pub automaton : List Row
  pub at : slice_get r.automata mode ≡ Some automaton
  pub accepted : IsAccepted automaton pattern

-- some state of the automaton leads one of the characters elsewhere than the other
pub record TellsApart (d : List Row) (c e : ℕ) : Type 0 where
  pub state : ℕ
  pub there : state < length d
  pub apart : step d state c ≢ step d state e

-- characters of which the automaton tells any two apart
pub record AreToldApart (d : List Row) (cs : List ℕ) : Type 0 where
  pub characters : All (λ c. c < 1114112) cs
  pub apart : (i j : ℕ) → i < j → j < length cs → TellsApart d (slice_index cs i) (slice_index cs j)

-- the automaton tells more than 255 characters apart; or a table with a row for each state, and in the row a cell for each such character
-- and 131 more, has more than 2 ^ 27 cells
pub record IsTooLarge (d : List Row) : Type 0 where
  pub told_apart : List ℕ
  pub are : AreToldApart d told_apart
  pub many : (255 < length told_apart) ⊎ (2 ^ 27 < length d * (length told_apart + 131))

-- the automaton of some mode is too large
pub record HasTooLarge (r : ModeRules) : Type 0 where
  pub mode : ℕ
  pub there : mode < r.modes
  pub automaton : List Row
  pub at : slice_get r.automata mode ≡ Some automaton
  pub large : IsTooLarge automaton

-- the error of numbers is right
abbrev pub IsNumbersError : ModeRules → EmitError → Type 0
IsNumbersError r NoRules = r.names ≡ []
IsNumbersError r (BadName i) = IsFirstBadName r.names i
IsNumbersError r SkipCount = ¬ (length r.skips ≡ length r.names)
IsNumbersError r (NoName pattern) = IsUnnamed r pattern
IsNumbersError r TooManyRules = 2 ^ 16 ≤ length r.names
IsNumbersError r TooManyModes = 2 ^ 16 ≤ r.modes
IsNumbersError r TooManyActions = 2 ^ 32 ≤ length (action_numbers (actions_of_rules r))
IsNumbersError r (BadVariant kind) = ⊥
IsNumbersError r BadPrefix = ⊥
IsNumbersError r NoTable = HasTooLarge r
IsNumbersError r OutOfMemory = Unit {0}

-- no error is right but that memory was refused
abbrev pub CanBeNumbered : ModeRules → Type 0
CanBeNumbered r = (e : EmitError) → IsNumbersError r e → e ≡ OutOfMemory

-- the error of a source file in C is right
abbrev pub IsSourceError : List ℕ → EmitError → Type 0
IsSourceError prefix NoRules = ⊥
IsSourceError prefix (BadName i) = ⊥
IsSourceError prefix SkipCount = ⊥
IsSourceError prefix (NoName pattern) = ⊥
IsSourceError prefix TooManyRules = ⊥
IsSourceError prefix TooManyModes = ⊥
IsSourceError prefix TooManyActions = ⊥
IsSourceError prefix (BadVariant kind) = ⊥
IsSourceError prefix BadPrefix = ¬ IsIdentifier prefix
IsSourceError prefix NoTable = ⊥
IsSourceError prefix OutOfMemory = Unit {0}
