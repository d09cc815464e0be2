-- The lexer of a file that was read, or why there is none.
use Rattle.std.specs.Prelude.{◌≡◌, List, length, map}
use Rattle.bajofeki_rules.specs.declared.mode_rule.ModeRule.{ModeRule}
use Rattle.lalrpop_rule_file.specs.RuleFile.{AreModeRules as KnowTheirParts}
use Rattle.lalrpop_rule_file.specs.declared.error.RuleFileError.TheVariants as read
use Rattle.lalrpop_rule_file.specs.declared.file.RuleFile.{RuleFile}
use Rattle.lalrpop_rules.specs.FileLexer.{place_in}
use Rattle.lalrpop_rules.specs.Modes.{ModeRules}
use Rattle.lalrpop_rules.specs.ModeSet.{AreModeRules, IsRulesError}
use Rattle.lalrpop_rules.specs.declared.from_file.FileError.{FileError}
use Rattle.lalrpop_rules.specs.declared.from_file.FileError.TheVariants.{File, Rules}

-- the lexer has the rules and the modes of the file
abbrev pub IsLexerOfRules : RuleFile → ModeRules → Type 0
IsLexerOfRules file lexer =
    (taken : List ModeRule) × (KnowTheirParts file.parts.items file.rules.items taken × AreModeRules taken (length file.modes.items) lexer
    × (lexer.mode_names ≡ map (λ m. m.now) file.modes.items))

-- the error is right: memory was refused; or the rules make no lexer
abbrev pub IsRefusalOfRules : RuleFile → FileError → Type 0
IsRefusalOfRules file (File e) = e ≡ read.OutOfMemory
IsRefusalOfRules file (Rules place e) =
    (taken : List ModeRule) × (KnowTheirParts file.parts.items file.rules.items taken × IsRulesError taken (length file.modes.items) e
    × (place ≡ place_in file.rules.items e))
