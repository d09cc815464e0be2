use Rattle.std.proofs.lemmas.Str.{IsCharBoundary-start}
use Rattle.lexer_tests.proofs.lexers.first_block.Goals as goal

pub find_ends-vain-requires : goal.find_ends-vain-requires
find_ends-vain-requires c = record { boundary = IsCharBoundary-start c.args.text.now c.utf8.text }
