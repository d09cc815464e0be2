-- cases: proofs/Cases/Report.antt
-- What became of the rules, in numbers.
use Rattle.std.specs.Prelude.{ℕ, List, slice_get, Option, Some, None, Result, Ok, Err}
use Rattle.lalrpop_emit.specs.declared.error.EmitError.{EmitError}
use Rattle.lalrpop_emit.specs.declared.error.EmitError.TheVariants as emit
use Rattle.bajofeki_rules.specs.declared.position.Position.{Position}
use Rattle.lalrpop_rules.specs.declared.error.RulesError.{RulesError}
use Rattle.lalrpop_rules.specs.declared.error.RulesError.TheVariants as modes
use Rattle.lalrpop_rule_file.specs.declared.error.RuleFileError.{RuleFileError}
use Rattle.lalrpop_rule_file.specs.declared.error.RuleFileError.TheVariants as file
use Rattle.bajofeki_c.specs.declared.held.BuildError.{BuildError}
use Rattle.bajofeki_c.specs.declared.held.BuildError.TheVariants.{File, Rules, Numbers, Freed}
use Rattle.bajofeki_c.specs.declared.held.BuiltLexer.{BuiltLexer}
use Rattle.bajofeki_c.specs.declared.held.Held.{Held}
use Rattle.bajofeki_c.specs.declared.held.NamedRule.{NamedRule}
use Rattle.bajofeki_c.specs.declared.report.Report.{Report}

-- ---- places

abbrev pub no_place : Position
no_place = record { line = 0; column = 0 }

abbrev pub place_or_none : Option NamedRule → Position
place_or_none None = no_place
place_or_none (Some r) = r.place

-- where the text of the rule with this number begins
abbrev pub place_at : List NamedRule → ℕ → Position
place_at rs i = place_or_none (slice_get rs i)

-- ---- numbers

-- of one rule at most
abbrev pub told : ℕ → Position → ℕ → ℕ → Report
told code place rule position =
    record { code = code; line = place.line; column = place.column; rule = rule; other = 0; other_line = 0; other_column = 0; position = position }

-- a code alone
abbrev pub told_code : ℕ → Report
told_code code = told code no_place 0 0

-- a line of the file is wrong
abbrev pub told_line : ℕ → ℕ → Report
told_line line column = told 1 (record { line = line; column = column }) 0 0

-- this rule is wrong
abbrev pub told_rule : ℕ → List NamedRule → ℕ → ℕ → Report
told_rule code rs i position = told code (place_at rs i) i position

abbrev pub told_places : Position → ℕ → Position → ℕ → Report
told_places place rule other_place other = record {
  code = 5;
  line = place.line;
  column = place.column;
  rule = rule;
  other = other;
  other_line = other_place.line;
  other_column = other_place.column;
  position = 0;
}

-- these two clash, the later one first
abbrev pub told_clash : List NamedRule → ℕ → ℕ → Report
told_clash rs i j = told_places (place_at rs i) i (place_at rs j) j

-- ---- errors

abbrev pub report_of_file : RuleFileError → Report
report_of_file (file.BadLine line column fault) = told_line line column
report_of_file (file.BadPart line column kind) = told_line line column
report_of_file (file.RepeatedPart line column) = told_line line column
report_of_file (file.NoSuchMode line column) = told_line line column
report_of_file file.OutOfMemory = told_code 7

abbrev pub report_of_rules : RulesError → List NamedRule → Report
report_of_rules (modes.NoSuchMode i m) rs = told_rule 1 rs i 0
report_of_rules (modes.NotParsed i position kind) rs = told_rule 2 rs i position
report_of_rules (modes.BadEnd i e) rs = told_rule 3 rs i 0
report_of_rules (modes.NotCompiled i e) rs = told_rule 4 rs i 0
report_of_rules (modes.Clash m i j w) rs = told_clash rs i j
report_of_rules modes.OutOfMemory rs = told_code 7

abbrev pub report_of_numbers : EmitError → Report
report_of_numbers emit.OutOfMemory = told_code 7
report_of_numbers _ = told_code 6

abbrev pub report_of_error : BuildError → Report
report_of_error (File e) = report_of_file e
report_of_error (Rules e rules) = report_of_rules e rules.items
report_of_error (Numbers e) = report_of_numbers e
report_of_error Freed = told_code 8

abbrev pub report_of_made : Result BuiltLexer BuildError → Report
report_of_made (Ok l) = told_code 0
report_of_made (Err e) = report_of_error e

abbrev pub report : Held → Report
report h = report_of_made h.made
