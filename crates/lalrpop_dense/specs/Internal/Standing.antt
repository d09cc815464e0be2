-- How far the matches of a text have been found.
use Rattle.std.specs.Prelude.{◌≡◌, ℕ, ◌+◌, ◌*◌, ◌^◌, ◌<◌, ◌≤◌, List, length, drop}
use Rattle.std.specs.Str.{chars, IsCharBoundary}
use Rattle.lalrpop_dfa.specs.Dfa.{Row}
use Rattle.lalrpop_dense.specs.Internal.Memory.{Memory, IsFor, room}
use Rattle.lalrpop_dense.specs.Internal.Hopeless.{IsSound}

-- the memory is for what is left of the text from the byte `at` on, after `index` characters
pub record IsStanding (d : List Row) (text : List ℕ) (at index : ℕ) (m : Memory) : Type 0 where
  pub boundary : IsCharBoundary text at
  pub small : index + length (chars (drop at text)) < 2 ^ 64
  pub places : index + length (chars (drop at text)) < 64 * m.places
  pub fits : IsFor d m
  pub sound : IsSound d m index (chars (drop at text))

-- the rest begins at `at`, and the memory is for what is left after `counted`
pub record IsReached (d : List Row) (text : List ℕ) (at counted index : ℕ) (m : Memory) : Type 0 where
  pub boundary : IsCharBoundary text at
  pub behind : counted ≤ at
  pub standing : IsStanding d text counted index m

-- how many characters may still be read besides: 64 for each pair that is not noted yet, those that the table may read in vain, and those
-- that are still to be counted
abbrev pub spare_of : List ℕ → ℕ → ℕ → Memory → ℕ
spare_of text credit counted m = 64 * room m + credit + length (chars (drop counted text))
