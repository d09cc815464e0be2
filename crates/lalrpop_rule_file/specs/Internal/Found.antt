-- Warnings, while they are found.
use Rattle.std.specs.Prelude.{◌≡◌, ℕ, ◌<◌, ◌⊎◌, ◌↔◌, List, Contains}
use Rattle.lalrpop_rule_file.specs.declared.file.RuleFile.{RuleFile}
use Rattle.lalrpop_rule_file.specs.declared.warning.Warning.{Warning}
use Rattle.lalrpop_rule_file.specs.Warnings.{AreInOrder, IsWarning, kind_of, number_of}

-- the warning comes before one of this kind with this number
abbrev pub IsBelow : ℕ → ℕ → Warning → Type 0
IsBelow kind number w = (kind_of w < kind) ⊎ ((kind_of w ≡ kind) × (number_of w < number))

-- all warnings below there are found
pub record HasFound (file : RuleFile) (kind number : ℕ) (ws : List Warning) : Type 0 where
  pub those : (w : Warning) → Contains ws w ↔ (IsWarning file w × IsBelow kind number w)
  pub in_order : AreInOrder ws
