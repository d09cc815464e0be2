-- Cases of specs/FileRules.antt.
use Rattle.std.proofs.Common.{◌≡◌, [], ◌∷◌, ap}
use Rattle.bajofeki_rules.specs.declared.mode_rule.ModeRule.{ModeRule}
use Rattle.lalrpop_rule_file.specs.declared.file_rule.FileRule.{FileRule}
use Rattle.bajofeki_rules.specs.declared.rule.Rule.{Rule}
use Rattle.reports_lib.specs.FileRules.{AreFileRules}

-- a rule of a file, as a lexer takes it
same_name : (f : FileRule) (q : ModeRule) → AreFileRules [] (f ∷ []) (q ∷ []) → q.rule.name ≡ f.rule.name
same_name f q are = ap (λ (r : Rule). r.name) are.rules.0.rule

no_rule_too_many : (q : ModeRule) → ¬ AreFileRules [] [] (q ∷ [])
no_rule_too_many q are = are.rules
