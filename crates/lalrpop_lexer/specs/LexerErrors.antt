-- cases: proofs/Cases/LexerErrors.antt
-- Errors of the parser and of the construction, as errors of a lexer.
use Rattle.lalrpop_hir.specs.declared.error.DfaConstructionError.{DfaConstructionError}
use Rattle.lalrpop_hir.specs.declared.error.DfaConstructionError.TheVariants as built
use Rattle.lalrpop_re.specs.declared.error.RegexError.{RegexError}
use Rattle.lalrpop_re.specs.declared.error.RegexError.TheVariants as read
use Rattle.lalrpop_lexer.specs.declared.error.LexerError.{LexerError}
use Rattle.lalrpop_lexer.specs.declared.error.LexerError.TheVariants.{Syntax, NotCompiled, Clash, OutOfMemory}

-- of the parser
abbrev pub of_regex : RegexError → LexerError
of_regex (read.Syntax position kind) = Syntax position kind
of_regex read.OutOfMemory = OutOfMemory

-- of the construction
abbrev pub of_construction : DfaConstructionError → LexerError
of_construction (built.NfaConstructionError i e) = NotCompiled i e
of_construction (built.Ambiguity i j w) = Clash i j w
of_construction built.OutOfMemory = OutOfMemory
