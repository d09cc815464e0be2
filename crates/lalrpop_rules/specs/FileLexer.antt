-- cases: proofs/Cases/FileLexer.antt
-- The lexer of a file of rules, or why there is none.
use Rattle.std.specs.Prelude.{◌≡◌, ℕ, List, length, Option, Some, None, slice_get}
use Rattle.std.specs.Option.{option_map}
use Rattle.bajofeki_rules.specs.Lines.{lines}
use Rattle.bajofeki_rules.specs.declared.mode_rule.ModeRule.{ModeRule}
use Rattle.bajofeki_rules.specs.declared.position.Position.{Position}
use Rattle.lalrpop_re.specs.NamedPart.{NamedPart}
use Rattle.lalrpop_rule_file.specs.RuleFile.{AreFileParts, ArePlaces, AreRules, IsRuleFileError, without_mark, AreModeRules as KnowTheirParts}
use Rattle.lalrpop_rule_file.specs.declared.error.RuleFileError.{RuleFileError}
use Rattle.lalrpop_rule_file.specs.declared.error.RuleFileError.TheVariants as read
use Rattle.lalrpop_rule_file.specs.declared.file_rule.FileRule.{FileRule}
use Rattle.lalrpop_rules.specs.Modes.{ModeRules}
use Rattle.lalrpop_rules.specs.ModeSet.{AreModeRules, IsRulesError}
use Rattle.lalrpop_rules.specs.declared.error.RulesError.{RulesError}
use Rattle.lalrpop_rules.specs.declared.error.RulesError.TheVariants.{NoSuchMode, NotParsed, BadEnd, NotCompiled, Clash, OutOfMemory}
use Rattle.lalrpop_rules.specs.declared.from_file.FileError.{FileError}
use Rattle.lalrpop_rules.specs.declared.from_file.FileError.TheVariants.{File, Rules}

-- what the file says: its parts, the names of its modes, its rules with their places, and the same rules as a lexer takes them, each with the parts
-- that it knows
pub record Says (bytes : List ℕ) (modes : ℕ) (rules : List FileRule) (taken : List ModeRule) : Type 0 where
  pub parts : List NamedPart
  pub names : List (List ℕ)
  pub count : length names ≡ modes
  pub has_parts : AreFileParts (lines (without_mark bytes)) parts
  pub has_rules : AreRules (lines (without_mark bytes)) names rules
  pub has_places : ArePlaces (lines (without_mark bytes)) rules
  pub known : KnowTheirParts parts rules taken

-- the rule that an error names first
abbrev pub rule_of : RulesError → Option ℕ
rule_of (NoSuchMode i m) = Some i
rule_of (NotParsed i position kind) = Some i
rule_of (BadEnd i e) = Some i
rule_of (NotCompiled i e) = Some i
rule_of (Clash m i j w) = Some i
rule_of OutOfMemory = None

abbrev pub place_of : List FileRule → Option ℕ → Option Position
place_of rules None = None
place_of rules (Some i) = option_map (λ r. r.place) (slice_get rules i)

-- where the text of that rule begins
abbrev pub place_in : List FileRule → RulesError → Option Position
place_in rules e = place_of rules (rule_of e)

-- the lexer has the rules and the modes of the file
abbrev pub IsLexerOfFile : List ℕ → ModeRules → Type 0
IsLexerOfFile bytes lexer =
    (modes : ℕ) × ((rules : List FileRule) × ((taken : List ModeRule) × ((says : Says bytes modes rules taken)
    × (AreModeRules taken modes lexer × (lexer.mode_names ≡ says.names)))))

-- the error is right: the file can't be read; or its rules make no lexer, and the text of the rule named first begins at this place
abbrev pub IsFileError : List ℕ → FileError → Type 0
IsFileError bytes (File e) = IsRuleFileError (without_mark bytes) e
IsFileError bytes (Rules place e) =
    (modes : ℕ) × ((rules : List FileRule) × ((taken : List ModeRule) × (Says bytes modes rules taken × IsRulesError taken modes e × (place ≡ place_in rules e))))

-- errors of reading and of memory as errors of a file
abbrev pub file_error : RuleFileError → FileError
file_error e = File e

abbrev pub memory_error : FileError
memory_error = File read.OutOfMemory
