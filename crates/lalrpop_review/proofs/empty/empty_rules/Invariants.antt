use Rattle.std.proofs.Common.{[]}
use Rattle.lalrpop_hir.specs.Winners.{TreeMatches}
use Rattle.lalrpop_review.specs.Review.{AreThose}
use Rattle.lalrpop_review.proofs.empty.empty_rules.Given as goal

abbrev pub invariant-loop-index : goal.invariant-loop-index
invariant-loop-index l = AreThose l.index (TreeMatches l.regexs []) l.found.items
