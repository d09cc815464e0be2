use Rattle.lalrpop_review.proofs.Reviews.{reviews_more}
use Rattle.lalrpop_review.proofs.modes.review.Goals as goal

pub loop-mode-preserved : goal.loop-mode-preserved
loop-mode-preserved c =
    reviews_more c.args.lexer.now c.loop-mode.mode c.loop-mode.modes.items _ c.in_ok-found.found c.loop-mode.invariant.0 c.loop-mode.invariant.1 c.in_ok-found.ensures.review c.in_ok-push.ensures.items
