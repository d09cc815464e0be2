-- cases: proofs/Cases/Built.antt
-- What becomes of a file of rules: a lexer, or why there is none.
use Rattle.std.specs.Prelude.{◌≡◌, ◌⊎◌, ℕ, List, length, map, string_bytes, Result, Ok, Err}
use Rattle.lalrpop_emit.specs.EmitErrors.{IsNumbersError}
use Rattle.lalrpop_emit.specs.NumberedRules.{AreNumbersOf}
use Rattle.bajofeki_rules.specs.Lines.{lines}
use Rattle.lalrpop_rules.specs.Modes.{ModeRules, NoModeClash}
use Rattle.lalrpop_rules.specs.ModeSet.{AreModeRules, IsRulesError}
use Rattle.bajofeki_rules.specs.declared.mode_rule.ModeRule.{ModeRule}
use Rattle.lalrpop_rule_file.specs.RuleFile.{AreFileParts, ArePlaces, AreRules, IsRuleFileError, without_mark, AreModeRules as AreGivenRules}
use Rattle.lalrpop_rule_file.specs.declared.error.RuleFileError.TheVariants as file_error
use Rattle.lalrpop_rule_file.specs.declared.file.RuleFile.{RuleFile}
use Rattle.lalrpop_rule_file.specs.declared.file_rule.FileRule.{FileRule}
use Rattle.bajofeki_c.specs.declared.held.BuildError.{BuildError}
use Rattle.bajofeki_c.specs.declared.held.BuildError.TheVariants.{File, Rules, Numbers, Freed}
use Rattle.bajofeki_c.specs.declared.held.BuiltLexer.{BuiltLexer}
use Rattle.bajofeki_c.specs.declared.held.Held.{Held}
use Rattle.bajofeki_c.specs.declared.held.NamedRule.{NamedRule}

-- ---- what is built

-- the rules of the file as a lexer takes them
pub record AreGiven (file : RuleFile) (rs : List ModeRule) : Type 0 where
  pub rules : AreGivenRules file.parts.items file.rules.items rs
  pub modes : map (λ r. r.modes.now) rs ≡ map (λ r. r.modes.items) file.rules.items
  pub actions : map (λ r. r.actions.now) rs ≡ map (λ r. r.actions.items) file.rules.items

-- the lexer of these rules
pub record IsBuiltOf (r : ModeRules) (l : BuiltLexer) : Type 0 where
  pub rules : l.rules ≡ r
  pub numbers : AreNumbersOf r l.numbers

-- these are the names of the rules, in their order, and the places at which their texts begin
pub record AreNamed (rs : List FileRule) (named : List NamedRule) : Type 0 where
  pub names : map (λ n. string_bytes n.name) named ≡ map (λ r. r.rule.name.now) rs
  pub places : map (λ n. n.place) named ≡ map (λ r. r.place) rs

-- these are the rules and the modes of the file, and in no mode is a word ambiguous
pub record AreRulesOf (file : RuleFile) (r : ModeRules) : Type 0 where
  pub given : List ModeRule
  pub are_given : AreGiven file given
  pub rules : AreModeRules given (length file.modes.items) r
  pub modes : r.mode_names ≡ map (λ name. name.now) file.modes.items
  pub no_clash : NoModeClash r

-- the lexer of the file, or why it has none
abbrev pub IsBuiltFor : RuleFile → Result BuiltLexer BuildError → Type 0
IsBuiltFor file (Ok l) = (r : ModeRules) × (AreRulesOf file r × IsBuiltOf r l)
IsBuiltFor file (Err (File e)) = e ≡ file_error.OutOfMemory
IsBuiltFor file (Err (Rules e rules)) =
    ((given : List ModeRule) × (AreGiven file given × IsRulesError given (length file.modes.items) e)) × AreNamed file.rules.items rules.items
IsBuiltFor file (Err (Numbers e)) = (r : ModeRules) × (AreRulesOf file r × IsNumbersError r e)
IsBuiltFor file (Err Freed) = ⊥

-- ---- what is made

-- the bytes, without their mark, are this file
pub record IsFile (bytes : List ℕ) (file : RuleFile) : Type 0 where
  pub parts : AreFileParts (lines bytes) file.parts.items
  pub rules : AreRules (lines bytes) (map (λ m. m.now) file.modes.items) file.rules.items
  pub places : ArePlaces (lines bytes) file.rules.items

-- the bytes are no file of rules
abbrev pub IsNoFile : List ℕ → Result BuiltLexer BuildError → Type 0
IsNoFile bytes (Ok l) = ⊥
IsNoFile bytes (Err (File e)) = IsRuleFileError bytes e
IsNoFile bytes (Err (Rules e rules)) = ⊥
IsNoFile bytes (Err (Numbers e)) = ⊥
IsNoFile bytes (Err Freed) = ⊥

-- the lexer of the file that the bytes are, or why there is none
abbrev pub IsMade : List ℕ → Held → Type 0
IsMade bytes h = ((file : RuleFile) × (IsFile (without_mark bytes) file × IsBuiltFor file h.made)) ⊎ IsNoFile (without_mark bytes) h.made

-- the memory was given back
abbrev pub IsFreed : Held → Type 0
IsFreed h = h.made ≡ Err Freed
