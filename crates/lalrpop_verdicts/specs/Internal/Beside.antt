-- How the least tokens side by side are found: from a state on, in an automaton that stays where it accepts.
use Rattle.std.specs.Prelude.{◌≡◌, ◌≢◌, ℕ, suc, ◌<◌, ◌++◌, List, [], length, map, slice_get, Option, Some, None, IsSomeAnd}
use Rattle.lalrpop_hir.specs.Range.{Range}
use Rattle.lalrpop_dfa.specs.Dfa.{Row, run, IsWellFormed}
use Rattle.lalrpop_dfa.specs.Lookahead.{IsAccepting}
use Rattle.lalrpop_dfa.specs.declared.Kind.TheVariants.{Accepts, Neither}
use Rattle.lalrpop_verdicts.specs.Answers.{accepted_by, accepted_at}
use Rattle.lalrpop_verdicts.specs.Beside.{IsToken, RunsOn}
use Rattle.lalrpop_verdicts.specs.declared.pairs.Pair.{Pair}
use Rattle.lalrpop_verdicts.specs.declared.side_by_side.Cut.{Cut}
use Rattle.lalrpop_verdicts.specs.declared.side_by_side.Cut.TheVariants.{Kept, Lost}

-- whether the join runs on is as it is asked
abbrev pub Fits : Cut → Type 0 → Type 0
Fits Kept A = ¬ A
Fits Lost A = A

-- a token of i and one of j, whose join is cut so
abbrev pub AreBeside : Cut → List Row → ℕ → ℕ → List ℕ → List ℕ → Type 0
AreBeside cut d i j a b = IsToken d i a × IsToken d j b × Fits cut (RunsOn d a b)

-- a nonempty prefix of the word leads from the state p to one that accepts
abbrev pub Passes : List Row → ℕ → List ℕ → Type 0
Passes d p b = (u v : List ℕ) × (b ≡ u ++ v) × (u ≢ []) × IsAccepting d (run d p u)

-- a token of j that is cut so after a token that leads to the state p
abbrev pub IsTail : Cut → List Row → ℕ → ℕ → List ℕ → Type 0
IsTail cut d p j b = IsToken d j b × Fits cut (Passes d p b)

-- ---- the automaton that begins in a state, and stays where it accepts

-- the tests, each of which leads one state further
abbrev pub shifted : List (Range × ℕ) → List (Range × ℕ)
shifted ts = map (λ t. (t.0, suc t.1)) ts

-- the row of a state that accepts nothing, with edges that lead one state further
abbrev pub shifted_row : Row → Row
shifted_row r = record { kind = Neither; tests = shifted r.tests; other = suc r.other; items = [] }

-- the row of the state q, which has the number q + 1; where the state accepts, no value leads out of it
abbrev pub row_ahead : ℕ → Row → Option ℕ → Row
row_ahead q r None = shifted_row r
row_ahead q r (Some i) = record { kind = Accepts i; tests = []; other = suc q; items = [] }

-- the row of the state p as that of one that accepts nothing, and after it the rows of the first n states
pub record AreAhead (d : List Row) (p n : ℕ) (rows : List Row) : Type 0 where
  pub same_length : length rows ≡ suc n
  pub first : IsSomeAnd (slice_get d p) (λ r. slice_get rows 0 ≡ Some (shifted_row r))
  pub each : (q : ℕ) (r : Row) → q < n → slice_get d q ≡ Some r → slice_get rows (suc q) ≡ Some (row_ahead q r (accepted_by r.kind))

-- the automaton with all of these rows
pub record IsAhead (d : List Row) (p : ℕ) (e : List Row) : Type 0 where
  pub well_formed : IsWellFormed d
  pub within : p < length d
  pub rows : AreAhead d p (length d) e

-- ---- pairs of states

-- the pair's left state says whether the join runs on, and its right one accepts j
abbrev pub EndsTail : Cut → List Row → List Row → ℕ → Pair → Type 0
EndsTail cut e d j x = Fits cut (IsAccepting e x.left) × (accepted_at (slice_get d x.right) ≡ Some j)

-- the pair's left state accepts i, and some token of j is cut so after it
abbrev pub EndsHead : Cut → List Row → ℕ → ℕ → Pair → Type 0
EndsHead cut d i j x = (accepted_at (slice_get d x.left) ≡ Some i) × ((b : List ℕ) × IsTail cut d x.left j b)
