-- cases: proofs/Cases/WarningsSaid.antt
-- Whether the warnings about a file of rules are said, and of which file.
use Rattle.std.specs.Prelude.{◌≡◌, ℕ, List, [], map}
use Rattle.lalrpop_rule_file.specs.PartLines.{ArePartLines}
use Rattle.lalrpop_rule_file.specs.RuleFile.{AreFileParts, AreRules, ArePlaces}
use Rattle.lalrpop_rule_file.specs.declared.file.RuleFile.{RuleFile}
use Rattle.reports_lib.specs.Warned.{SaysWarnings}
use Rattle.lexdfa_lib.specs.declared.layout.LineForm.{LineForm}
use Rattle.lexdfa_lib.specs.declared.command.Verbosity.{Verbosity}
use Rattle.lexdfa_lib.specs.declared.command.Verbosity.TheVariants.{Quiet, Warnings, Progress}

-- nothing with --quiet
abbrev pub SaysIfAsked : LineForm → Verbosity → List ℕ → List (List ℕ) → RuleFile → List ℕ → Type 0
SaysIfAsked form Quiet name ls file said = said ≡ []
SaysIfAsked form Warnings name ls file said = SaysWarnings form name ls file said
SaysIfAsked form Progress name ls file said = SaysWarnings form name ls file said

-- the lines are this file: its modes, its rules and its parts, and where these stand
pub record IsFileOf (ls : List (List ℕ)) (file : RuleFile) : Type 0 where
  pub rules : AreRules ls (map (λ name. name.now) file.modes.items) file.rules.items
  pub places : ArePlaces ls file.rules.items
  pub parts : AreFileParts ls file.parts.items
  pub part_lines : ArePartLines ls file.part_lines.items

-- it is said of the file with these lines
abbrev pub Warned : LineForm → Verbosity → List ℕ → List (List ℕ) → List ℕ → Type 0
Warned form verbosity name ls said = (file : RuleFile) × (IsFileOf ls file × SaysIfAsked form verbosity name ls file said)
