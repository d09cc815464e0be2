-- cases: proofs/Cases/Apart.antt
-- Where two lists of rules with modes make different tokens of a text.
use Rattle.std.specs.Prelude.{◌≢◌, ℕ, Bool, false, List, [], slice_get, unwrap_or, Option, Some, None}
use Rattle.lalrpop_hir.specs.Winners.{Matched, IsOnlyStrongest}
use Rattle.lalrpop_rules.specs.Modes.{ModeRules, trees_in}
use Rattle.bajofeki_rules.specs.Stack.{actions_of}
use Rattle.bajofeki_rules.specs.declared.action.Action.{Action}
use Rattle.lalrpop_verdicts.specs.Answers.{IsTextWord}

-- what a token is: the name of its rule, whether it is skipped, and what it does to the stack of modes
pub record Told : Type 0 where
  pub name : List ℕ
  pub skipped : Bool
  pub actions : List Action

-- a token of rule i; nothing if there is no token
abbrev pub told : ModeRules → Option ℕ → Option Told
told r None = None
told r (Some i) = Some (record { name = unwrap_or (slice_get r.names i) []; skipped = unwrap_or (slice_get r.skips i) false; actions = actions_of r.actions i })

-- in the mode the word is a token of this rule, or of none
abbrev pub IsTokenIn : ModeRules → ℕ → List ℕ → Option ℕ → Type 0
IsTokenIn r m w None = ¬ Matched (trees_in r m) w
IsTokenIn r m w (Some i) = IsOnlyStrongest (trees_in r m) r.precedences w i

-- the word is a nonempty piece of text, and in the mode it is another token by the one list than by the other
abbrev pub TellsApart : ModeRules → ModeRules → ℕ → List ℕ → Type 0
TellsApart r s m w =
    IsTextWord w × (w ≢ []) × ((i : Option ℕ) × ((j : Option ℕ) × (IsTokenIn r m w i × (IsTokenIn s m w j × (told r i ≢ told s j)))))
