-- The names of the rules of a file, through the rules of its lexer.
use Rattle.std.proofs.Common.{◌≡◌, ℕ, List, [], ◌∷◌, map, refl, ap, ◌∙◌}
use Rattle.lalrpop_rules.specs.RuleSet.{names_of}
use Rattle.lalrpop_rules.specs.ModeSet.{rules_of}
use Rattle.bajofeki_rules.specs.declared.mode_rule.ModeRule.{ModeRule}
use Rattle.lalrpop_rule_file.specs.declared.file_rule.FileRule.{FileRule}

each_name : (ms : List ModeRule) → map (λ r. r.name.now) (map (λ m. m.rule) ms) ≡ map (λ m. m.rule.name.now) ms
each_name [] = refl
each_name (m ∷ ms) = ap (λ (x : List (List ℕ)). m.rule.name.now ∷ x) (each_name ms)

pub names_of_file : (ms : List ModeRule) (rs : List FileRule) (names : List (List ℕ)) → map (λ m. m.rule.name.now) ms ≡ map (λ r. r.rule.name.now) rs → names ≡ names_of (rules_of ms) → names ≡ map (λ r. r.rule.name.now) rs
names_of_file ms rs names same is = is ∙ each_name ms ∙ same
