-- The classes of characters that an automaton doesn't tell apart.
use Rattle.std.specs.Prelude.{◌≡◌, ℕ, ◌+◌, ◌<◌, ◌≤◌, Bool, true, nat_le, ◌&&◌, List, length, Some, slice_get, slice_index}
use Rattle.std.specs.List.{All}
use Rattle.lalrpop_hir.specs.Range.{Range}
use Rattle.lalrpop_dfa.specs.Dfa.{Row, step}
use Rattle.lalrpop_emit.specs.EmitErrors.{AreToldApart, IsTooLarge}
use Rattle.lalrpop_emit.specs.declared.classes.CharacterClasses.{CharacterClasses}
use Rattle.lalrpop_emit.specs.declared.error.EmitError.{EmitError}
use Rattle.lalrpop_emit.specs.declared.error.EmitError.TheVariants.{NoTable, OutOfMemory}

-- the range holds the value
abbrev pub holds : ℕ → ℕ → ℕ → Bool
holds first last c = nat_le first c && nat_le c last

-- the character is marked
abbrev pub IsMarked : List Bool → ℕ → Type 0
IsMarked marks c = slice_get marks c ≡ Some true

-- the first value of the range is marked, and the one after its last, if they are characters
pub record IsBetweenMarks (marks : List Bool) (r : Range) : Type 0 where
  pub start : r.start < 1114112 → IsMarked marks r.start
  pub end : r.end + 1 < 1114112 → IsMarked marks (r.end + 1)

-- the same of the range of each edge
abbrev pub AreBetweenMarks : List Bool → List (Range × ℕ) → Type 0
AreBetweenMarks marks edges = All (λ t. IsBetweenMarks marks t.0) edges

-- the same of the edges of each state
pub record AreMarks (d : List Row) (marks : List Bool) : Type 0 where
  pub all : length marks ≡ 1114112
  pub each : (state : ℕ) (r : Row) → slice_get d state ≡ Some r → AreBetweenMarks marks r.tests

-- each state leads both characters to one state
abbrev pub AreAlike : List Row → ℕ → ℕ → Type 0
AreAlike d c e = (state : ℕ) → state < length d → step d state c ≡ step d state e

-- each character is in a class, whose characters are all alike; of two classes the first characters are told apart
pub record AreClassesOf (d : List Row) (c : CharacterClasses) : Type 0 where
  pub apart : AreToldApart d c.firsts.items
  pub few : length c.firsts.items ≤ 255
  pub all : length c.classes.items ≡ 1114112
  pub within : (v : ℕ) → v < 1114112 → slice_index c.classes.items v < length c.firsts.items
  pub alike : (v : ℕ) → v < 1114112 → AreAlike d v (slice_index c.firsts.items (slice_index c.classes.items v))

-- why an automaton has no table
abbrev pub IsTableError : List Row → EmitError → Type 0
IsTableError d NoTable = IsTooLarge d
IsTableError d OutOfMemory = Unit {0}
IsTableError d _ = ⊥
