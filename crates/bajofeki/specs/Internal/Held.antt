-- cases: proofs/Cases/Held.antt
-- The run of a piece that is held back.
use Rattle.std.specs.Prelude.{◌≡◌, ℕ, ◌<◌, ◌≤◌, false, List, length, take, Some, slice_get}
use Rattle.std.specs.Str.{chars, IsUtf8}
use Rattle.lalrpop_dfa.specs.Dfa.{Row}
use Rattle.lalrpop_dfa.specs.declared.Kind.TheVariants.{Accepts}
use Rattle.lalrpop_rules.specs.Modes.{ModeRules}
use Rattle.bajofeki.specs.declared.held_run.HeldRun.{HeldRun}
use Rattle.bajofeki.specs.declared.walker.Walker.{Walker}
use Rattle.bajofeki.specs.Internal.Walking.{IsRight, IsWalkerOf, behind, says}

-- no nonempty front of the word leads to a place that accepts
abbrev pub IsUnmatched : Walker → List ℕ → Type 0
IsUnmatched w word = (n i : ℕ) → 0 < n → n ≤ length word → ¬ (says w (behind w (take n word)) ≡ Accepts i)

-- the run goes along the automaton of the mode, and stands where the bytes of the text lead that it has read
pub record IsHeld (r : ModeRules) (mode : ℕ) (text : List ℕ) (h : HeldRun) : Type 0 where
  pub right : IsRight h.walker
  pub same : (d : List Row) → slice_get r.automata mode ≡ Some d → IsWalkerOf h.walker d
  pub within : h.read ≤ length text
  pub seen : IsUtf8 (take h.read text)
  pub reached : h.place ≡ behind h.walker (chars (take h.read text))
  pub nothing : h.has_match ≡ false → IsUnmatched h.walker (chars (take h.read text))
