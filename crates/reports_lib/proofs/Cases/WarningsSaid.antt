-- Cases of specs/WarningsSaid.antt.
use Rattle.std.proofs.Common.{◌≡◌, ℕ, List, [], ◌∷◌, codes, flat_map, refl, arith, Contains, Bor}
use Rattle.std.specs.Fmt.{digits}
use Rattle.bajofeki_rules.specs.declared.position.Position.{Position}
use Rattle.lalrpop_rule_file.specs.declared.file.RuleFile.{RuleFile}
use Rattle.lalrpop_rule_file.specs.declared.warning.Warning.{Warning}
use Rattle.lalrpop_rule_file.specs.declared.warning.Warning.TheVariants.{NoRules, PartUnused, ModeNotEntered, ModeNotLeft, TextGoesOn, ClassOutside, EndPassed}
use Rattle.reports_lib.specs.ModePlace.{TellsSections}
use Rattle.reports_lib.specs.Warned.{AreWarnings, warning_line}
use Rattle.lexdfa_lib.specs.declared.layout.LineForm.{LineForm}
use Rattle.lexdfa_lib.specs.declared.layout.LineForm.TheVariants.{Plain}
use Rattle.reports_lib.specs.WarningsSaid.{SaysIfAsked}
use Rattle.lexdfa_lib.specs.declared.command.Verbosity.TheVariants.{Quiet, Warnings, Progress}

-- a line for each
two_warnings : (ls : List (List ℕ)) (section : List ℕ → Position) (file : RuleFile) → TellsSections ls section → section (codes "M") ≡ record { line = 1; column = 1 }
    → AreWarnings file (NoRules ∷ ModeNotEntered 0 ∷ []) → (m : Bor (List ℕ)) → file.modes.items ≡ m ∷ [] → m.now ≡ codes "M"
    → SaysIfAsked Plain Progress (codes "r") ls file
    (codes "tokens: r: warning: there is no rule in this file: a rule is a line NAME = 'TEXT' or NAME = /PATTERN/\ntokens: r:1:1: warning: no rule enters the mode M\n")
unfolding digits
two_warnings ls section file tells at are m modes name = (section, (tells, (NoRules ∷ ModeNotEntered 0 ∷ [], (are, rw modes (rw name (rw at refl))))))

-- with --quiet nothing is said, whatever is wrong
nothing_with_quiet : (form : LineForm) (ls : List (List ℕ)) (file : RuleFile) → SaysIfAsked form Quiet (codes "r") ls file []
nothing_with_quiet form ls file = refl

no_warning_with_quiet : (form : LineForm) (ls : List (List ℕ)) (file : RuleFile) → ¬ SaysIfAsked form Quiet (codes "r") ls file (codes "tokens: r: warning: a\n")
no_warning_with_quiet form ls file e = absurd (cc)

-- a file without rules is not passed over
no_rule_is_told : (ls : List (List ℕ)) (file : RuleFile) → file.rules.items ≡ [] → ¬ SaysIfAsked Plain Warnings (codes "r") ls file []
no_rule_is_told ls file none (section, (tells, (ws, (are, e)))) = by ws ((are.all NoRules).1 none) e
  where
    by : (ws : List Warning) → Contains ws NoRules → [] ≡ flat_map (warning_line (codes "r") section file) ws → ⊥
    by [] (i, within, is) e = omega (arith, within)
    by (NoRules ∷ ws) has e = absurd (cc)
    by (PartUnused i ∷ ws) has e = absurd (cc)
    by (ModeNotEntered m ∷ ws) has e = absurd (cc)
    by (ModeNotLeft m ∷ ws) has e = absurd (cc)
    by (TextGoesOn i ∷ ws) has e = absurd (cc)
    by (ClassOutside i ∷ ws) has e = absurd (cc)
    by (EndPassed i ∷ ws) has e = absurd (cc)
