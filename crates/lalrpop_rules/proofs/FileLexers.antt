-- What reading a file and building its lexer give together.
use Rattle.std.proofs.Common.{ℕ, List, map, length, Result, Ok, Err, sym, subst}
use Rattle.std.specs.Prelude.{IfOk, IfErr}
use Rattle.std.proofs.lemmas.List.{length-map}
use Rattle.bajofeki_rules.specs.Lines.{lines}
use Rattle.bajofeki_rules.specs.declared.mode_rule.ModeRule.{ModeRule}
use Rattle.lalrpop_rule_file.specs.RuleFile.{AreFileParts, ArePlaces, AreRules, IsRuleFileError, without_mark, AreModeRules as KnowTheirParts}
use Rattle.lalrpop_rule_file.specs.declared.error.RuleFileError.{RuleFileError}
use Rattle.lalrpop_rule_file.specs.declared.file.RuleFile.{RuleFile}
use Rattle.lalrpop_rules.specs.FileLexer.{IsFileError, IsLexerOfFile, Says}
use Rattle.lalrpop_rules.specs.Internal.FileRules.{IsLexerOfRules, IsRefusalOfRules}
use Rattle.lalrpop_rules.specs.Modes.{ModeRules}
use Rattle.lalrpop_rules.specs.declared.from_file.FileError.{FileError}
use Rattle.lalrpop_rules.specs.declared.from_file.FileError.TheVariants.{File, Rules}

-- the file was read from the bytes
pub record IsReadFrom (bytes : List ℕ) (file : RuleFile) : Type 0 where
  pub parts : AreFileParts (lines (without_mark bytes)) file.parts.items
  pub rules : AreRules (lines (without_mark bytes)) (map (λ m. m.now) file.modes.items) file.rules.items
  pub places : ArePlaces (lines (without_mark bytes)) file.rules.items

says : (bytes : List ℕ) (file : RuleFile) (taken : List ModeRule) → IsReadFrom bytes file → KnowTheirParts file.parts.items file.rules.items taken
    → Says bytes (length file.modes.items) file.rules.items taken
says bytes file taken read known = record {
  parts = file.parts.items;
  names = map (λ m. m.now) file.modes.items;
  count = length-map file.modes.items (λ m. m.now);
  has_parts = read.parts;
  has_rules = read.rules;
  has_places = read.places;
  known = known;
}

pub lexer_of_file : (bytes : List ℕ) (file : RuleFile) (r : Result ModeRules FileError) → IsReadFrom bytes file → IfOk r (IsLexerOfRules file) → IfOk r (IsLexerOfFile bytes)
unfolding says
lexer_of_file bytes file (Ok lexer) read (taken, (known, are, named)) = (length file.modes.items, (file.rules.items, (taken, (says bytes file taken read known, (are, named)))))
lexer_of_file bytes file (Err e) read is = tt

pub error_of_file : (bytes : List ℕ) (file : RuleFile) (r : Result ModeRules FileError) → IsReadFrom bytes file → IfErr r (IsRefusalOfRules file) → IfErr r (IsFileError bytes)
error_of_file bytes file (Ok lexer) read is = tt
error_of_file bytes file (Err (File e)) read is = subst (λ (x : RuleFileError). IsRuleFileError (without_mark bytes) x) (sym is) tt
error_of_file bytes file (Err (Rules place e)) read (taken, (known, is, at)) =
    (length file.modes.items, (file.rules.items, (taken, (says bytes file taken read known, is, at))))
