use Rattle.std.proofs.Common.{◌∷◌, length, ap, arith}
use Rattle.uses_lexer.proofs.build_a_lexer.number_of_patterns.Goals as goal

pub returns : goal.returns
returns c = record {
  number = ap length c.regexs.ensures.trees;
  no_word = λ v w large matched. omega (arith, large, (c.regexs.ensures.words (v ∷ w) matched).0);
}
