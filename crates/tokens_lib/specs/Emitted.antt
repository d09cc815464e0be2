-- cases: proofs/Cases/Emitted.antt
-- The answer for the lexer of a file of rules as a source file.
use Rattle.std.specs.Prelude.{◌≡◌, ◌≢◌, ℕ, ◌⊎◌, List, [], Option, Some, None, codes}
use Rattle.std.specs.Borrow.{Bor}
use Rattle.lalrpop_emit.specs.CSource.{c_file}
use Rattle.lalrpop_emit.specs.EmitErrors.{IsNumbersError, IsSourceError}
use Rattle.lalrpop_emit.specs.Names.{distinct_names}
use Rattle.lalrpop_emit.specs.NumberedRules.{NumberedRules, AreNumbersOf}
use Rattle.lalrpop_emit.specs.RustSource.{rust_file, IsRustError}
use Rattle.lalrpop_emit.specs.declared.error.EmitError.{EmitError}
use Rattle.lalrpop_emit.specs.declared.error.EmitError.TheVariants as error
use Rattle.lalrpop_rules.specs.Modes.{ModeRules}
use Rattle.reports_lib.specs.Answer.{Answer, refusal, about}
use Rattle.lexdfa_lib.specs.declared.command.Language.{Language}
use Rattle.lexdfa_lib.specs.declared.command.Language.TheVariants.{C, Rust}

-- what the names of a lexer in C begin with
abbrev pub prefix_of : Option (Bor (List ℕ)) → List ℕ
prefix_of None = codes "lex"
prefix_of (Some prefix) = prefix.now

-- the source file in a language
abbrev pub source_file : Language → NumberedRules → List ℕ
source_file (C prefix) n = c_file (prefix_of prefix) n
source_file Rust n = rust_file n

-- rules with these distinct names can't be written in the language, for this reason
abbrev pub IsFileError : Language → List (List ℕ) → EmitError → Type 0
IsFileError (C prefix) names e = IsSourceError (prefix_of prefix) e
IsFileError Rust names e = IsRustError names e

-- a reason why there is no source file: the rules have no numbers, or their names can't be written
abbrev pub IsNoSource : Language → ModeRules → EmitError → Type 0
IsNoSource language r e = (e ≢ error.OutOfMemory) × (IsNumbersError r e ⊎ IsFileError language (distinct_names r.names) e)

-- what is said of it
abbrev pub error_reason : EmitError → List ℕ
error_reason error.NoRules = codes "there is no rule"
error_reason (error.BadName i) = codes "the name of a rule isn't made of ASCII letters, digits and _"
error_reason error.SkipCount = codes "there aren't as many skips as rules"
error_reason (error.NoName i) = codes "a pattern has no name"
error_reason error.TooManyRules = codes "there are more than 65,535 rules"
error_reason error.TooManyModes = codes "there are more than 65,535 modes"
error_reason error.TooManyActions = codes "the rules have too many actions"
error_reason (error.BadVariant k) = codes "the name of a rule can't be a variant of an enum in Rust"
error_reason error.BadPrefix = codes "the prefix isn't an identifier: ASCII letters, digits and _, and no digit first"
error_reason error.NoTable = codes "the table of these rules would be too large"
error_reason error.OutOfMemory = codes "out of memory"

-- there is no such reason, and the source file of the rules is written; or there is one, which is said
abbrev pub SourceAnswer : Language → List ℕ → ModeRules → Answer → Type 0
SourceAnswer language file r answer =
    (¬ ((e : EmitError) × IsNoSource language r e)
    × ((n : NumberedRules) × (AreNumbersOf r n × (answer ≡ record { status = 0; out = source_file language n; err = [] }))))
    ⊎ ((e : EmitError) × (IsNoSource language r e × (answer ≡ refusal 2 (about file (error_reason e)))))
