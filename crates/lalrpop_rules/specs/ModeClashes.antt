-- cases: proofs/Cases/ModeClashes.antt
-- All clashes of rules with modes, mode by mode.
use Rattle.std.specs.Prelude.{◌≡◌, ℕ, List, length, slice_get, Some}
use Rattle.lalrpop_hir.specs.Clashes.{Entry, AreClashes}
use Rattle.lalrpop_rules.specs.Modes.{ModeRules, trees_in}
use Rattle.lalrpop_rules.specs.ModeSet.{IsRulesError}
use Rattle.bajofeki_rules.specs.declared.mode_rule.ModeRule.{ModeRule}
use Rattle.lalrpop_rules.specs.declared.error.RulesError.{RulesError}
use Rattle.lalrpop_rules.specs.declared.error.RulesError.TheVariants.{Clash}

-- there is a list for each mode, in order: all clashes of its trees
pub record AreModeClashes (r : ModeRules) (css : List (List Entry)) : Type 0 where
  pub count : length css ≡ r.modes
  pub each : (m : ℕ) (cs : List Entry) → slice_get css m ≡ Some cs → AreClashes (trees_in r m) r.precedences cs

-- the error is right, and isn't a clash
abbrev pub IsModesFault : List ModeRule → ℕ → RulesError → Type 0
IsModesFault rs modes (Clash m i j w) = ⊥
IsModesFault rs modes error = IsRulesError rs modes error
