-- cases: proofs/Cases/FileRules.antt
-- The rules of a file, as a lexer takes them.
use Rattle.std.specs.Prelude.{◌≡◌, List, map}
use Rattle.bajofeki_rules.specs.declared.mode_rule.ModeRule.{ModeRule}
use Rattle.lalrpop_re.specs.NamedPart.{NamedPart}
use Rattle.lalrpop_rule_file.specs.RuleFile as file
use Rattle.lalrpop_rule_file.specs.declared.file_rule.FileRule.{FileRule}

-- the rules of a file with these parts, as a lexer takes them
pub record AreFileRules (ps : List NamedPart) (fs : List FileRule) (rs : List ModeRule) : Type 0 where
  pub rules : file.AreModeRules ps fs rs
  pub modes : map (λ q. q.modes.now) rs ≡ map (λ f. f.modes.items) fs
  pub actions : map (λ q. q.actions.now) rs ≡ map (λ f. f.actions.items) fs
