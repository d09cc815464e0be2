use Rattle.std.proofs.Common.{◌≡◌, ℕ, List, Bool, true, false, Option, Some, None, is_some, not, IfSome, IfNone, IsTrue, refl}
use Rattle.std.specs.Prelude.{◌↔◌}
use Rattle.lalrpop_dfa.specs.Witness.{IsLeast}
use Rattle.lalrpop_verdicts.specs.Differences.{Answers}
use Rattle.uses_rules.proofs.ask_rules.is_unchanged_in.Goals as goal

-- there is no least word with the property just where no word has it
none_apart : (o : Option Answers) (b : Bool) (Q : List ℕ → Type 0) → is_some o ≡ not b → IfSome o (λ f. IsLeast Q f.word) → IfNone o ((w : List ℕ) → ¬ Q w)
    → IsTrue b ↔ ((w : List ℕ) → ¬ Q w)
none_apart None true Q e least none = (λ yes. none, λ h. refl)
none_apart None false Q e least none = absurd (cc)
none_apart (Some f) true Q e least none = absurd (cc)
none_apart (Some f) false Q e least none = (λ yes. absurd (cc), λ h. absurd (h f.word least.holds))

pub returns : goal.returns
returns c = record { same = none_apart c.in_ok-difference_in.field-0 c.is_none.result _ c.is_none.ensures c.in_ok-difference_in.ensures.least c.in_ok-difference_in.ensures.none }
