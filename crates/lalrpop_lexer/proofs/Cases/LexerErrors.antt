-- Cases of specs/LexerErrors.antt.
use Rattle.std.proofs.Common.{◌≡◌, ◌≢◌, ℕ, refl}
use Rattle.lalrpop_hir.specs.declared.error.DfaConstructionError.TheVariants as built
use Rattle.lalrpop_re.specs.declared.error.RegexError.TheVariants as read
use Rattle.lalrpop_re.specs.declared.error.SyntaxKind.{SyntaxKind}
use Rattle.lalrpop_lexer.specs.LexerErrors.{of_regex, of_construction}
use Rattle.lalrpop_lexer.specs.declared.error.LexerError.TheVariants.{Syntax, OutOfMemory}

place_is_kept : (position : ℕ) (kind : SyntaxKind) → of_regex (read.Syntax position kind) ≡ Syntax position kind
place_is_kept position kind = refl

refused_memory_is_no_syntax : (position : ℕ) (kind : SyntaxKind) → of_regex read.OutOfMemory ≢ Syntax position kind
refused_memory_is_no_syntax position kind e = absurd (cc)

refused_memory_is_told : of_construction built.OutOfMemory ≡ OutOfMemory
refused_memory_is_told = refl
