use Rattle.std.proofs.Common.{sym, subst}
use Rattle.std.proofs.lemmas.Str.{IsCharBoundary-start}
use Rattle.lalrpop_dense.specs.Leading.{AreAhead}
use Rattle.lalrpop_dense.proofs.ahead.Ahead.new.Goals as goal

pub invariant_of-result : goal.invariant_of-result
invariant_of-result c = record {
  boundary = IsCharBoundary-start c.args.text.now c.utf8.text;
  ahead = subst (λ es. AreAhead c.args.dense.now c.args.text.now 0 es) (sym c.new.ensures.none) tt;
}
