use Rattle.std.proofs.Common.{arith}
use Rattle.lalrpop_review.proofs.MeaningLaws.{told_more}
use Rattle.lalrpop_review.proofs.apart.meanings.Goals as goal

pub loop-index-preserved : goal.loop-index-preserved
loop-index-preserved c = (
  omega (arith, c.in_ok-push.ensures.len, c.loop-index.invariant.0),
  rw c.in_ok-push.ensures.items
      (told_more c.args.lexer.now c.loop-index.all.items c.meaning_of.result c.loop-index.index c.loop-index.invariant.0 c.loop-index.invariant.1 c.meaning_of.ensures),
)
