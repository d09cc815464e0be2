use Rattle.lalrpop_hir.specs.Winners.{Matched}
use Rattle.lalrpop_lexer.proofs.MatchedWords.{open_words}
use Rattle.lalrpop_lexer.proofs.lexer.Lexer.lookahead.Goals as goal

pub returns : goal.returns
returns c = record {
  answer = rw (← c.self.view_is) c.self.invariant.2;
  words = open_words (Matched c.args.self.now.trees) (rw (← c.self.view_is) c.self.invariant.3);
}
