use Rattle.std.proofs.lemmas.Str.{IsCharBoundary-start}
use Rattle.lalrpop_dense.proofs.cutting.Tokens.new.Goals as goal

pub invariant_of-result : goal.invariant_of-result
invariant_of-result c = (IsCharBoundary-start c.args.text.now c.utf8.text, c.requires.same_text)
